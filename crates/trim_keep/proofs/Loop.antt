-- The loop over `keep`, by what its callees ensure. Assumes nothing.
use Prim.Native.Nat.{ℕ, suc, ◌+◌, ◌≤◌, ◌<◌}
use mathlib.Core.Bool.{true, false}
use mathlib.Core.List.{List, [], ◌∷◌}
use mathlib.Core.Path.{◌≡◌, refl, sym, ap, ◌∙◌, subst}
use native.Mathlib.Numerals.{add-one}
use lib.ListN.{length, drop}
use lib.Ieee.{Float, le}
use Rattle.layout.specs.Layout.{words_per_edge}
use Rattle.buffers.specs.Slots.{slots_of}
use Rattle.trim_split.specs.of_better.Stretches.{Interval}
use Rattle.windows.specs.declared.Edge.{Edge}
use Rattle.windows.specs.declared.WindowRecord.{WindowRecord}
use Rattle.trim_split.specs.of_trim_model.Intervals.{width, wide_of}
use Rattle.trim_split.proofs.laws_of_trim_state.Turns.{wide_yes}
use Rattle.trim_split.specs.of_live_windows.Live.{live_of}
use Rattle.trim_split.specs.Running.{End, stopped, at}
use Rattle.trim_split.proofs.Loops.{WindowSlices, SameWindowSlices, same_refl, same_trans, same_windows, windows_of, snapshot_of, ReadyIn, ready_same}
use Rattle.trim_keep.specs.Keeping.{Seats, KeptOne}
use Rattle.trim_keep.proofs.Seating.{seats_skip, seats_none}

module _ (limit : Float) (flags : List ℕ) (e : Edge) (x : WindowRecord) (t : Float) (ps : List Interval) (s₀ : WindowSlices) (vertex₀ : List Float) (made₀ queued₀ last₀ : ℕ) where
  abbrev From : ℕ → WindowSlices → List Float → ℕ → ℕ → ℕ → (cuts j : ℕ) → End → Type 0
  From i s vertex made queued last cuts j = Seats cuts (windows_of s₀) limit flags e (live_of x j) (wide_of t (drop i ps)) (snapshot_of s made queued last vertex)

  abbrev Whole : (cuts j : ℕ) → End → Type 0
  Whole cuts j = Seats cuts (windows_of s₀) limit flags e (live_of x j) (wide_of t ps) (snapshot_of s₀ made₀ queued₀ last₀ vertex₀)

  pub record KeepInv (s : WindowSlices) (vertex : List Float) (made queued last i : ℕ) : Type 0 where
    pub same : SameWindowSlices s₀ s
    pub same_vertex : length vertex ≡ length vertex₀
    pub edge : e.id.0 < slots_of (length s₀.edges) words_per_edge
    pub fits : made ≤ windows_of s₀
    pub linked : last ≤ made
    pub goal : (cuts j : ℕ) (end : End) → From i s vertex made queued last cuts j end → Whole cuts j end

  pub keep_start : ReadyIn e.id.0 made₀ last₀ s₀ → KeepInv s₀ vertex₀ made₀ queued₀ last₀ 0
  keep_start r = record { same = same_refl s₀; same_vertex = refl; edge = r.edge; fits = r.fits; linked = r.linked; goal = λ cuts j end d. d }

  module _ (s : WindowSlices) (vertex : List Float) (made queued last i : ℕ) (inv : KeepInv s vertex made queued last i) where
    pub keep_ready : ReadyIn e.id.0 made last s
    keep_ready = ready_same e.id.0 made last s₀ s inv.same inv.edge inv.fits inv.linked

    pub keep_over : drop i ps ≡ [] → (cuts j : ℕ) → Whole cuts j (at (snapshot_of s made queued last vertex))
    keep_over none cuts j = inv.goal cuts j (at (snapshot_of s made queued last vertex))
        (subst (λ (l : List Interval). Seats cuts (windows_of s₀) limit flags e (live_of x j) (wide_of t l) (snapshot_of s made queued last vertex) (at (snapshot_of s made queued last vertex))) (sym none)
        (seats_none cuts (windows_of s₀) limit flags e (live_of x j) t (snapshot_of s made queued last vertex)))

    module _ (b0 b1 : Float) (here : drop i ps ≡ record { from = b0; to = b1 } ∷ drop (suc i) ps) where
      pub keep_skip : le (width b0 b1) t ≡ true → KeepInv s vertex made queued last (i + 1)
      keep_skip h = record {
        same = inv.same;
        same_vertex = inv.same_vertex;
        edge = inv.edge;
        fits = inv.fits;
        linked = inv.linked;
        goal = λ cuts j end d. inv.goal cuts j end
            (subst (λ (l : List Interval). Seats cuts (windows_of s₀) limit flags e (live_of x j) (wide_of t l) (snapshot_of s made queued last vertex) end) (sym here)
            (seats_skip cuts (windows_of s₀) limit flags e (live_of x j) t (record { from = b0; to = b1 }) (drop (suc i) ps) h (snapshot_of s made queued last vertex) end
            (subst (λ (n : ℕ). From n s vertex made queued last cuts j end) (add-one i) d)));
      }

      module _ (wide : le (width b0 b1) t ≡ false) where
        abbrev OneDoes : End → Type 0
        OneDoes end = (cuts j : ℕ) → KeptOne cuts (windows_of s) limit flags e (live_of x j) (record { from = b0; to = b1 }) (snapshot_of s made queued last vertex) end

        in_first : (end : End) → OneDoes end → (cuts j : ℕ) → KeptOne cuts (windows_of s₀) limit flags e (live_of x j) (record { from = b0; to = b1 }) (snapshot_of s made queued last vertex) end
        in_first end d cuts j = subst (λ (n : ℕ). KeptOne cuts n limit flags e (live_of x j) (record { from = b0; to = b1 }) (snapshot_of s made queued last vertex) end) (same_windows s₀ s inv.same) (d cuts j)

        as_wide : (cuts j : ℕ) (end : End) → Seats cuts (windows_of s₀) limit flags e (live_of x j) (record { from = b0; to = b1 } ∷ wide_of t (drop (suc i) ps)) (snapshot_of s made queued last vertex) end → From i s vertex made queued last cuts j end
        as_wide cuts j end d = subst (λ (l : List Interval). Seats cuts (windows_of s₀) limit flags e (live_of x j) l (snapshot_of s made queued last vertex) end) (sym (ap (wide_of t) here ∙ wide_yes t (record { from = b0; to = b1 }) (drop (suc i) ps) wide)) d

        pub keep_stopped : (n : ℕ) → OneDoes (stopped n) → (cuts j : ℕ) → Whole cuts j (stopped n)
        keep_stopped n d cuts j = inv.goal cuts j (stopped n) (as_wide cuts j (stopped n) (in_first (stopped n) d cuts j (wide_of t (drop (suc i) ps))))

        pub keep_next : (s' : WindowSlices) (vertex' : List Float) (made' queued' last' : ℕ) → SameWindowSlices s s' → length vertex' ≡ length vertex → (made' ≤ windows_of s) × (last' ≤ made') → OneDoes (at (snapshot_of s' made' queued' last' vertex')) → KeepInv s' vertex' made' queued' last' (i + 1)
        keep_next s' vertex' made' queued' last' h v l d = record {
          same = same_trans s₀ s s' inv.same h;
          same_vertex = v ∙ inv.same_vertex;
          edge = inv.edge;
          fits = subst (λ (n : ℕ). made' ≤ n) (same_windows s₀ s inv.same) l.0;
          linked = l.1;
          goal = λ cuts j end g. inv.goal cuts j end (as_wide cuts j end (in_first (at (snapshot_of s' made' queued' last' vertex')) d cuts j (wide_of t (drop (suc i) ps)) end
              (subst (λ (n : ℕ). From n s' vertex' made' queued' last' cuts j end) (add-one i) g)));
        }
