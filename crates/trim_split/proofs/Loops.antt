-- The functions that make parts, by what their callees ensure. Assumes nothing.
use Prim.Native.Nat.{ℕ, suc, ◌+◌, ◌≤◌, ◌<◌, pred}
use mathlib.Core.List.{List, [], ◌∷◌}
use mathlib.Core.Path.{◌≡◌, refl, sym, ap, ◌∙◌, subst}
use native.Mathlib.Omega.{arith}
use native.Mathlib.Numerals.{add-one}
use lib.ListN.{length, drop}
use lib.Ieee.{Float}
use Rattle.layout.specs.Layout.{words_per_edge}
use Rattle.buffers.specs.Slots.{slots_of}
use Rattle.source.specs.Distance.{lowest_of}
use Rattle.cut_lists.specs.of_better.Stretches.{Interval}
use Rattle.cut_lists.specs.of_better.Buffers.{pairs}
use Rattle.heap.specs.Queue.{queue}
use Rattle.windows.specs.declared.WindowRecord.{WindowRecord}
use Rattle.windows.specs.Windows.{capacity_of}
use Rattle.chains.specs.Chains.{links}
use Rattle.cut_lists.specs.of_trim_model.Windows.{part, fresh, split}
use Rattle.live_windows.specs.of_trim_state.Trace.{making, makings, splitting}
use Rattle.live_windows.specs.Live.{live_of, Kills, Trims}
use Rattle.std.specs.Prelude.{Result}
use Rattle.buffers.specs.declared.Lack.{Lack}
use Rattle.trim_split.specs.declared.Made.{Made}
use Rattle.trim_split.specs.Running.{Snapshot, snapshot, End, stopped, at, Counted, Ready, Does}
use Rattle.trim_split.proofs.Parts.{parts_turn, parts_stop, parts_end, split_none, split_some}

-- what the slices hold
pub record WindowSlices : Type 0 where
  pub edges : List ℕ
  pub words : List ℕ
  pub reals : List Float
  pub keys : List Float
  pub events : List ℕ

abbrev pub window_slices : List ℕ → List ℕ → List Float → List Float → List ℕ → WindowSlices
window_slices edges words reals keys events = record { edges = edges; words = words; reals = reals; keys = keys; events = events }

abbrev pub windows_of : WindowSlices → ℕ
windows_of s = capacity_of (length s.words) (length s.reals)

abbrev pub snapshot_of : WindowSlices → ℕ → ℕ → ℕ → List Float → Snapshot
snapshot_of s made queued last vertex = snapshot made queued last (links s.edges s.words) s.reals (queue s.keys s.events) vertex

pub record SameWindowSlices (s s' : WindowSlices) : Type 0 where
  pub edges : length s'.edges ≡ length s.edges
  pub words : length s'.words ≡ length s.words
  pub reals : length s'.reals ≡ length s.reals
  pub keys : length s'.keys ≡ length s.keys
  pub events : length s'.events ≡ length s.events

pub same_refl : (s : WindowSlices) → SameWindowSlices s s
same_refl s = record { edges = refl; words = refl; reals = refl; keys = refl; events = refl }

pub same_trans : (s s' s'' : WindowSlices) → SameWindowSlices s s' → SameWindowSlices s' s'' → SameWindowSlices s s''
same_trans s s' s'' h k = record { edges = k.edges ∙ h.edges; words = k.words ∙ h.words; reals = k.reals ∙ h.reals; keys = k.keys ∙ h.keys; events = k.events ∙ h.events }

pub same_windows : (s s' : WindowSlices) → SameWindowSlices s s' → windows_of s' ≡ windows_of s
same_windows s s' h = ap (λ (n : ℕ). capacity_of n (length s'.reals)) h.words ∙ ap (capacity_of (length s.words)) h.reals

abbrev pub ReadyIn : ℕ → ℕ → ℕ → WindowSlices → Type 0
ReadyIn e made last s = Ready e made last s.edges s.words s.reals

pub ready_same : (e made last : ℕ) (s s' : WindowSlices) → SameWindowSlices s s' → e < slots_of (length s.edges) words_per_edge → made ≤ windows_of s → last ≤ made → ReadyIn e made last s'
ready_same e made last s s' h i j k = record { fits = subst (λ (n : ℕ). made ≤ n) (sym (same_windows s s' h)) j; linked = k; edge = subst (λ (n : ℕ). e < slots_of n words_per_edge) (sym h.edges) i }

-- ---- the loop over the pieces: ps are all of them
module _ (e : ℕ) (x : WindowRecord) (ps : List Interval) (s₀ : WindowSlices) (made₀ queued₀ last₀ : ℕ) where
  abbrev pub PartsFrom : ℕ → ℕ → ℕ → ℕ → WindowSlices → (cuts : ℕ) (limit : Float) (flags : List ℕ) (vertex : List Float) (k : ℕ) → End → Type 0
  PartsFrom i made queued last s cuts limit flags vertex k end = Does cuts (windows_of s₀) limit flags e (makings e (live_of x k) made (drop i ps)) [] (fresh (live_of x k) made (drop i ps)) (snapshot_of s made queued last vertex) end

  pub record PartsInv (s : WindowSlices) (made queued last i : ℕ) : Type 0 where
    pub same : SameWindowSlices s₀ s
    pub edge : e < slots_of (length s₀.edges) words_per_edge
    pub fits : made ≤ windows_of s₀
    pub linked : last ≤ made
    pub from_one : 1 ≤ i
    pub count : made + length (drop i ps) ≡ made₀ + length (drop 1 ps)
    pub goal : (cuts : ℕ) (limit : Float) (flags : List ℕ) (vertex : List Float) (k : ℕ) (end : End) → PartsFrom i made queued last s cuts limit flags vertex k end → PartsFrom 1 made₀ queued₀ last₀ s₀ cuts limit flags vertex k end

  pub parts_start : ReadyIn e made₀ last₀ s₀ → PartsInv s₀ made₀ queued₀ last₀ 1
  parts_start r = record { same = same_refl s₀; edge = r.edge; fits = r.fits; linked = r.linked; from_one = omega arith; count = refl; goal = λ cuts limit flags vertex k end d. d }

  module _ (s : WindowSlices) (made queued last i : ℕ) (inv : PartsInv s made queued last i) where
    pub parts_ready : ReadyIn e made last s
    parts_ready = ready_same e made last s₀ s inv.same inv.edge inv.fits inv.linked

    module _ (b0 b1 : Float) (here : drop i ps ≡ record { from = b0; to = b1 } ∷ drop (suc i) ps) (s' : WindowSlices) where
      -- what `make_part` ensures
      abbrev PartDoes : End → (cuts : ℕ) (limit : Float) (flags : List ℕ) (vertex : List Float) (k : ℕ) → Type 0
      PartDoes end cuts limit flags vertex k = Does cuts (windows_of s) limit flags e (making e (live_of x k) made (record { from = b0; to = b1 })) [] (part (live_of x k) b0 b1 made ∷ []) (snapshot_of s made queued last vertex) end

      in_first : (end : End) (cuts : ℕ) (limit : Float) (flags : List ℕ) (vertex : List Float) (k : ℕ) → PartDoes end cuts limit flags vertex k → Does cuts (windows_of s₀) limit flags e (making e (live_of x k) made (record { from = b0; to = b1 })) [] (part (live_of x k) b0 b1 made ∷ []) (snapshot_of s made queued last vertex) end
      in_first end cuts limit flags vertex k = subst (λ (n : ℕ). Does cuts n limit flags e (making e (live_of x k) made (record { from = b0; to = b1 })) [] (part (live_of x k) b0 b1 made ∷ []) (snapshot_of s made queued last vertex) end) (same_windows s₀ s inv.same)

      pub parts_stopped : (n : ℕ) → ((cuts : ℕ) (limit : Float) (flags : List ℕ) (vertex : List Float) (k : ℕ) → PartDoes (stopped n) cuts limit flags vertex k) → (cuts : ℕ) (limit : Float) (flags : List ℕ) (vertex : List Float) (k : ℕ) → PartsFrom 1 made₀ queued₀ last₀ s₀ cuts limit flags vertex k (stopped n)
      parts_stopped n d cuts limit flags vertex k = inv.goal cuts limit flags vertex k (stopped n)
          (subst (λ (l : List Interval). Does cuts (windows_of s₀) limit flags e (makings e (live_of x k) made l) [] (fresh (live_of x k) made l) (snapshot_of s made queued last vertex) (stopped n)) (sym here)
          (parts_stop cuts (windows_of s₀) limit flags e (live_of x k) made (record { from = b0; to = b1 }) (drop (suc i) ps) (snapshot_of s made queued last vertex) n (in_first (stopped n) cuts limit flags vertex k (d cuts limit flags vertex k))))

      pub parts_next : SameWindowSlices s s' → (made' queued' last' i' : ℕ) → made' ≡ suc made → i' ≡ i + 1 → ((cuts : ℕ) (limit : Float) (flags : List ℕ) (vertex : List Float) (k : ℕ) → PartDoes (at (snapshot_of s' made' queued' last' vertex)) cuts limit flags vertex k) → (nan : Float) → PartsInv s' made' queued' last' i'
      parts_next h made' queued' last' i' c is d nan =
          let one = in_first (at (snapshot_of s' made' queued' last' [])) 0 nan [] [] 0 (d 0 nan [] [] 0) in
          let j = inv.from_one in
          let step : i' ≡ suc i = is ∙ add-one i in
          record {
            same = same_trans s₀ s s' inv.same h;
            edge = inv.edge;
            fits = one.fits;
            linked = one.linked;
            from_one = omega arith;
            count = rw step (counted inv.count (ap length here));
            goal = λ cuts limit flags vertex k end g. inv.goal cuts limit flags vertex k end
                (subst (λ (l : List Interval). Does cuts (windows_of s₀) limit flags e (makings e (live_of x k) made l) [] (fresh (live_of x k) made l) (snapshot_of s made queued last vertex) end) (sym here)
                (parts_turn cuts (windows_of s₀) limit flags e (live_of x k) made (record { from = b0; to = b1 }) (drop (suc i) ps) (snapshot_of s made queued last vertex) made' c (snapshot_of s' made' queued' last' vertex)
                (in_first (at (snapshot_of s' made' queued' last' vertex)) cuts limit flags vertex k (d cuts limit flags vertex k)) end
                (subst (λ (n : ℕ). Does cuts (windows_of s₀) limit flags e (makings e (live_of x k) made' (drop n ps)) [] (fresh (live_of x k) made' (drop n ps)) (snapshot_of s' made' queued' last' vertex) end) step g)));
          }
        where
          counted : made + length (drop i ps) ≡ made₀ + length (drop 1 ps) → length (drop i ps) ≡ suc (length (drop (suc i) ps)) → made' + length (drop (suc i) ps) ≡ made₀ + length (drop 1 ps)
          counted a b = omega (arith, a, b, c)

    -- all are made
    module _ (none : drop i ps ≡ []) where
      pub parts_over : (cuts : ℕ) (limit : Float) (flags : List ℕ) (vertex : List Float) (k : ℕ) → PartsFrom 1 made₀ queued₀ last₀ s₀ cuts limit flags vertex k (at (snapshot_of s made queued last vertex))
      parts_over cuts limit flags vertex k = inv.goal cuts limit flags vertex k (at (snapshot_of s made queued last vertex))
          (subst (λ (l : List Interval). Does cuts (windows_of s₀) limit flags e (makings e (live_of x k) made l) [] (fresh (live_of x k) made l) (snapshot_of s made queued last vertex) (at (snapshot_of s made queued last vertex))) (sym none)
          (parts_end cuts (windows_of s₀) limit flags e (live_of x k) made (snapshot_of s made queued last vertex) inv.fits inv.linked))

      pub parts_count : made ≡ made₀ + length (drop 1 ps)
      parts_count = whole inv.count (ap length none)
        where
          whole : made + length (drop i ps) ≡ made₀ + length (drop 1 ps) → length (drop i ps) ≡ 0 → made ≡ made₀ + length (drop 1 ps)
          whole a b = omega (arith, a, b)

-- an interval read from a buffer
pub here_is : (l rest : List Interval) (b0 b1 c0 c1 : Float) → l ≡ record { from = c0; to = c1 } ∷ rest → b0 ≡ c0 → b1 ≡ c1 → l ≡ record { from = b0; to = b1 } ∷ rest
here_is l rest b0 b1 c0 c1 h p q = rw (p, q) h

pub counted_as : (r : Result Made Lack) (a b : ℕ) → a ≡ b → Counted r a → Counted r b
counted_as r a b h = subst (Counted r) h

pub but_first : (l : List Interval) → length (drop 1 l) ≡ pred (length l)
but_first [] = refl
but_first (p ∷ l) = refl

pub none_of : (n : ℕ) (l : List Float) → n ≡ 0 → pairs n l ≡ []
none_of n l h = rw h

-- ---- what is done to a window of which pieces are left
module _ (e : ℕ) (x : WindowRecord) (id made queued last : ℕ) (s : WindowSlices) (fits : made ≤ windows_of s) (ps : List Interval) where
  abbrev pub SplitDoes : (List Float → End) → Type 0
  SplitDoes end = (cuts : ℕ) (limit : Float) (flags : List ℕ) (vertex : List Float) → Does cuts (windows_of s) limit flags e (splitting e (live_of x id) made ps) (live_of x id ∷ []) (split (live_of x id) made ps) (snapshot_of s made queued last vertex) (end vertex)

  pub split_killed : last ≤ made → ps ≡ [] → (edges words : List ℕ) → Kills made (links s.edges s.words) (links edges words) e last id → SplitDoes (λ vertex. at (snapshot_of (window_slices edges words s.reals s.keys s.events) made queued last vertex))
  split_killed l h edges words kills cuts limit flags vertex =
      subst (λ (l : List Interval). Does cuts (windows_of s) limit flags e (splitting e (live_of x id) made l) (live_of x id ∷ []) (split (live_of x id) made l) (snapshot_of s made queued last vertex) (at (snapshot_of (window_slices edges words s.reals s.keys s.events) made queued last vertex))) (sym h)
      (split_none cuts (windows_of s) limit flags e x id made queued last (links s.edges s.words) s.reals (queue s.keys s.events) vertex fits l (links edges words) kills)

  module _ (inside : id < made) (b0 b1 low : Float) (isLow : low ≡ lowest_of x.win.src b0 b1) (reals : List Float) (trims : Trims s.reals reals id b0 b1 low) (same : length reals ≡ length s.reals) (here : ps ≡ record { from = b0; to = b1 } ∷ drop 1 ps) where
    abbrev pub trimmed : WindowSlices
    trimmed = window_slices s.edges s.words reals s.keys s.events

    pub trimmed_ready : e < slots_of (length s.edges) words_per_edge → (at1 : ℕ) → at1 ≡ suc id → ReadyIn e made at1 trimmed
    trimmed_ready i at1 h = ready_same e made at1 s trimmed (record { edges = refl; words = refl; reals = same; keys = refl; events = refl }) i fits (subst (λ (j : ℕ). j ≤ made) (sym h) inside)

    pub split_made : (at1 : ℕ) → at1 ≡ suc id → (end : List Float → End)
        → ((cuts : ℕ) (limit : Float) (flags : List ℕ) (vertex : List Float) (k : ℕ) → Does cuts (windows_of trimmed) limit flags e (makings e (live_of x k) made (drop 1 ps)) [] (fresh (live_of x k) made (drop 1 ps)) (snapshot_of trimmed made queued at1 vertex) (end vertex))
        → SplitDoes end
    split_made at1 h end d cuts limit flags vertex =
        let one = subst (λ (n : ℕ). Does cuts n limit flags e (makings e (live_of x id) made (drop 1 ps)) [] (fresh (live_of x id) made (drop 1 ps)) (snapshot_of trimmed made queued at1 vertex) (end vertex)) (ap (capacity_of (length s.words)) same) (d cuts limit flags vertex id) in
        subst (λ (l : List Interval). Does cuts (windows_of s) limit flags e (splitting e (live_of x id) made l) (live_of x id ∷ []) (split (live_of x id) made l) (snapshot_of s made queued last vertex) (end vertex)) (sym here)
        (split_some cuts (windows_of s) limit flags e x id made queued last (links s.edges s.words) s.reals (queue s.keys s.events) vertex fits inside (record { from = b0; to = b1 }) low isLow reals trims (drop 1 ps) (end vertex) at1 h one)
