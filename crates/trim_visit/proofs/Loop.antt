-- The loop over the run, by what its callees ensure. Assumes nothing.
use Prim.Native.Nat.{ℕ, suc, ◌+◌, ◌-◌, ◌≤◌, ◌<◌}
use mathlib.Core.Bool.{true, false}
use mathlib.Core.List.{List, []}
use mathlib.Core.Path.{◌≡◌, refl, sym, ap, ◌∙◌, subst}
use native.Mathlib.Nat.{le_refl, le_trans}
use native.Mathlib.Omega.{arith}
use lib.ListN.{length}
use lib.Ieee.{Float, lt}
use Rattle.layout.specs.Layout.{words_per_edge}
use Rattle.buffers.specs.declared.Lack.{Lack}
use Rattle.buffers.specs.Lack.{lack_number}
use Rattle.buffers.specs.Slots.{slots_of}
use Rattle.float64.specs.Notation.{◌⊕◌}
use Rattle.trim_split.specs.of_better.Stretches.{better_of}
use Rattle.trim_split.specs.of_better.Buffers.{pairs}
use Rattle.windows.specs.declared.WindowRecord.{WindowRecord}
use Rattle.chains.specs.Chains.{links}
use Rattle.trim_split.specs.of_trim_model.Windows.{Window}
use Rattle.trim_split.specs.of_trim_model.Add.{visit}
use Rattle.trim_split.specs.of_live_windows.Live.{live_of, LinkFollows, Loads}
use Rattle.trim_split.specs.of_cut_lists.Cut.{Sizes}
use Rattle.trim_split.specs.of_cut_lists.Buffers.{Cuts}
use Rattle.trim_split.specs.declared.Counts.{Counts}
use Rattle.trim_split.specs.Running.{End, stopped, at}
use Rattle.trim_split.proofs.Loops.{WindowSlices, SameWindowSlices, same_refl, same_trans, same_windows, windows_of, snapshot_of, ReadyIn, ready_same}
use Rattle.trim_visit.specs.declared.Visited.{Visited}
use Rattle.std.specs.Prelude.{Result, Ok, Err}
use Rattle.trim_visit.specs.Visiting.{from, Kept, Visits1, VisitsAll}
use Rattle.trim_visit.proofs.Lists.{visit_grows}
use Rattle.trim_visit.proofs.Turns.{all_spent, all_end, all_over, all_stop, all_turn}

pub record SameCuts (c c' : Cuts) : Type 0 where
  pub pts : length c'.pts ≡ length c.pts
  pub out : length c'.out ≡ length c.out
  pub keep : length c'.keep ≡ length c.keep
  pub next : length c'.next ≡ length c.next

abbrev pub SizesOf : Cuts → Type 0
SizesOf c = Sizes (length c.pts) c.out c.keep c.next

cuts_trans : (c c' c'' : Cuts) → SameCuts c c' → SameCuts c' c'' → SameCuts c c''
cuts_trans c c' c'' h k = record { keep = k.keep ∙ h.keep; pts = k.pts ∙ h.pts; out = k.out ∙ h.out; next = k.next ∙ h.next }

sizes_same : (c c' : Cuts) → SameCuts c c' → SizesOf c → SizesOf c'
sizes_same c c' h s = record {
  keeps = h.keep ∙ s.keeps ∙ ap (λ (n : ℕ). n + n) (sym h.pts);
  outs = h.out ∙ s.outs ∙ ap (λ (n : ℕ). n + n) (sym h.pts);
  nexts = h.next ∙ s.nexts ∙ ap (λ (n : ℕ). n + n) (sym h.pts);
}

module _ (e : ℕ) (t : Float) (w : Window) (s₀ : WindowSlices) (c₀ : Cuts) (made₀ queued₀ last₀ k₀ : ℕ) where
  abbrev size : ℕ
  size = length c₀.pts

  abbrev All : ℕ → WindowSlices → Cuts → ℕ → ℕ → ℕ → ℕ → (limit : Float) (flags : List ℕ) (vertex : List Float) → Result Visited Lack → End → List Float → Type 0
  All left s c made queued last k limit flags vertex = VisitsAll size (windows_of s₀) limit flags e t w (λ zs. length zs ≤ left) (pairs k c.keep) (snapshot_of s made queued last vertex)

  pub record VisitsInv (s : WindowSlices) (c : Cuts) (made queued last k left : ℕ) : Type 0 where
    pub same : SameWindowSlices s₀ s
    pub same_cuts : SameCuts c₀ c
    pub sizes : SizesOf c₀
    pub edge : e < slots_of (length s₀.edges) words_per_edge
    pub fits : made ≤ windows_of s₀
    pub linked : last ≤ made
    pub few : k ≤ size
    pub grown : made₀ ≤ made
    pub goal : (limit : Float) (flags : List ℕ) (vertex : List Float) (r : Result Visited Lack) (end : End) (keep' : List Float) → All left s c made queued last k limit flags vertex r end keep' → All made₀ s₀ c₀ made₀ queued₀ last₀ k₀ limit flags vertex r end keep'

  pub visits_start : (left : ℕ) → left ≡ made₀ → ReadyIn e made₀ last₀ s₀ → SizesOf c₀ → k₀ ≤ size → VisitsInv s₀ c₀ made₀ queued₀ last₀ k₀ left
  visits_start left is r z i = subst (VisitsInv s₀ c₀ made₀ queued₀ last₀ k₀) (sym is) (record {
    same = same_refl s₀;
    same_cuts = record { keep = refl; pts = refl; out = refl; next = refl };
    sizes = z;
    edge = r.edge;
    fits = r.fits;
    linked = r.linked;
    few = i;
    grown = le_refl made₀;
    goal = λ limit flags vertex r end keep' d. d;
  })

  module _ (s : WindowSlices) (c : Cuts) (now : Counts) (last k left : ℕ) (inv : VisitsInv s c now.made now.queued last k left) where
    abbrev made : ℕ
    made = now.made

    abbrev queued : ℕ
    queued = now.queued

    pub visits_ready : ReadyIn e made last s
    visits_ready = ready_same e made last s₀ s inv.same inv.edge inv.fits inv.linked

    pub visits_sizes : SizesOf c
    visits_sizes = sizes_same c₀ c inv.same_cuts inv.sizes

    pub visits_few : k ≤ length c.pts
    visits_few = subst (λ (n : ℕ). k ≤ n) (sym inv.same_cuts.pts) inv.few

    -- it ends here
    pub visits_spent : left ≡ 0 → (limit : Float) (flags : List ℕ) (vertex : List Float) → All made₀ s₀ c₀ made₀ queued₀ last₀ k₀ limit flags vertex (Ok (record { counts = now; last = last; kept = k })) (at (snapshot_of s made queued last vertex)) c.keep
    visits_spent z limit flags vertex = inv.goal limit flags vertex (Ok (record { counts = now; last = last; kept = k })) (at (snapshot_of s made queued last vertex)) c.keep
        (subst (λ (n : ℕ). All n s c made queued last k limit flags vertex (Ok (record { counts = now; last = last; kept = k })) (at (snapshot_of s made queued last vertex)) c.keep) (sym z)
        (all_spent size (windows_of s₀) limit flags e t w (pairs k c.keep) (snapshot_of s made queued last vertex) now k c.keep refl inv.few refl inv.fits inv.linked))

    module _ (link : ℕ) (follows : LinkFollows made (links s.edges s.words) e last link) where
      pub visits_end : link ≡ 0 → (limit : Float) (flags : List ℕ) (vertex : List Float) → All made₀ s₀ c₀ made₀ queued₀ last₀ k₀ limit flags vertex (Ok (record { counts = now; last = last; kept = k })) (at (snapshot_of s made queued last vertex)) c.keep
      visits_end z limit flags vertex = inv.goal limit flags vertex (Ok (record { counts = now; last = last; kept = k })) (at (snapshot_of s made queued last vertex)) c.keep
          (all_end size (windows_of s₀) limit flags e t w (pairs k c.keep) (snapshot_of s made queued last vertex) now k c.keep refl inv.few refl inv.fits inv.linked left link follows z)

      module _ (i : ℕ) (is : link ≡ suc i) (x : WindowRecord) (loads : Loads s.words s.reals i x) where
        pub visits_over : lt x.win.b0 (w.b1 ⊕ t) ≡ false → (limit : Float) (flags : List ℕ) (vertex : List Float) → All made₀ s₀ c₀ made₀ queued₀ last₀ k₀ limit flags vertex (Ok (record { counts = now; last = last; kept = k })) (at (snapshot_of s made queued last vertex)) c.keep
        visits_over b limit flags vertex = inv.goal limit flags vertex (Ok (record { counts = now; last = last; kept = k })) (at (snapshot_of s made queued last vertex)) c.keep
            (all_over size (windows_of s₀) limit flags e t w (pairs k c.keep) (snapshot_of s made queued last vertex) now k c.keep refl inv.few refl inv.fits inv.linked left link follows i is x loads b)

        pub visits_inside : i < made
        visits_inside = subst (λ (n : ℕ). n ≤ made) is follows.made

        module _ (b : lt x.win.b0 (w.b1 ⊕ t) ≡ true) where
          -- what `visit` ensures
          abbrev OneDoes : (List Float → End) → Type 0
          OneDoes end = (limit : Float) (flags : List ℕ) (vertex : List Float) → Visits1 (length c.pts) (windows_of s) limit flags e t w (pairs k c.keep) (live_of x i) (snapshot_of s made queued last vertex) (end vertex)

          in_first : (end : List Float → End) → OneDoes end → (limit : Float) (flags : List ℕ) (vertex : List Float) → Visits1 size (windows_of s₀) limit flags e t w (pairs k c.keep) (live_of x i) (snapshot_of s made queued last vertex) (end vertex)
          in_first end d limit flags vertex =
              subst (λ (n : ℕ). Visits1 n (windows_of s₀) limit flags e t w (pairs k c.keep) (live_of x i) (snapshot_of s made queued last vertex) (end vertex)) inv.same_cuts.pts
              (subst (λ (n : ℕ). Visits1 (length c.pts) n limit flags e t w (pairs k c.keep) (live_of x i) (snapshot_of s made queued last vertex) (end vertex)) (same_windows s₀ s inv.same) (d limit flags vertex))

          pub visits_stopped : (n : Lack) (keep' : List Float) → OneDoes (λ vertex. stopped (lack_number n)) → (limit : Float) (flags : List ℕ) (vertex : List Float) → All made₀ s₀ c₀ made₀ queued₀ last₀ k₀ limit flags vertex (Err n) (stopped (lack_number n)) keep'
          visits_stopped n keep' d limit flags vertex = inv.goal limit flags vertex (Err n) (stopped (lack_number n)) keep'
              (all_stop size (windows_of s₀) limit flags e t w (pairs k c.keep) (snapshot_of s made queued last vertex) left link follows i is x loads b n keep' (in_first (λ vertex. stopped (lack_number n)) d limit flags vertex))

          pub visits_next : (s' : WindowSlices) (c' : Cuts) (now' : Counts) (last' k' left' : ℕ) → SameWindowSlices s s' → SameCuts c c' → 0 < left → left' ≡ left - 1
              → Kept (length c.pts) now'.made k' c'.keep (visit better_of t w (live_of x i) (from (pairs k c.keep) made))
              → OneDoes (λ vertex. at (snapshot_of s' now'.made now'.queued last' vertex)) → (nan : Float) → VisitsInv s' c' now'.made now'.queued last' k' left'
          visits_next s' c' now' last' k' left' h j z isLeft kept d nan =
              let one = in_first (λ vertex. at (snapshot_of s' now'.made now'.queued last' vertex)) d nan [] [] in
              record {
                same = same_trans s₀ s s' inv.same h;
                same_cuts = cuts_trans c₀ c c' inv.same_cuts j;
                sizes = inv.sizes;
                edge = inv.edge;
                fits = one.fits;
                linked = one.linked;
                few = subst (λ (n : ℕ). k' ≤ n) inv.same_cuts.pts kept.few;
                grown = le_trans inv.grown (subst (λ (n : ℕ). made ≤ n) (sym kept.count) (visit_grows t w (live_of x i) (pairs k c.keep) made));
                goal = λ limit flags vertex r end keep' g. inv.goal limit flags vertex r end keep'
                    (all_turn size (windows_of s₀) limit flags e t w (pairs k c.keep) (snapshot_of s made queued last vertex) left link follows i is x loads b
                    (snapshot_of s' now'.made now'.queued last' vertex) (in_first (λ vertex. at (snapshot_of s' now'.made now'.queued last' vertex)) d limit flags vertex) kept.count (pairs k' c'.keep) kept.keep left' (omega (arith, z, isLeft)) r end keep' g);
              }
