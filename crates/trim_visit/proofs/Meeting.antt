-- The new window meets another: by what the callees ensure. Assumes nothing.
use Prim.Native.Nat.{ℕ, suc, ◌+◌, ◌≤◌, ◌<◌, pred}
use mathlib.Core.Bool.{true, false}
use mathlib.Core.List.{List, [], ◌∷◌}
use mathlib.Core.Path.{◌≡◌, refl, sym, ap, ◌∙◌, subst}
use native.Mathlib.Omega.{arith}
use lib.ListN.{length}
use lib.Ieee.{Float, le}
use Rattle.float64.specs.Notation.{◌⊖◌}
use Rattle.trim_split.specs.of_better.Stretches.{Interval, better_of}
use Rattle.trim_split.specs.of_better.Buffers.{pairs}
use Rattle.windows.specs.declared.WindowRecord.{WindowRecord}
use Rattle.trim_split.specs.of_trim_model.Windows.{Window, split}
use Rattle.trim_split.specs.of_trim_model.Add.{shared_lo, shared_hi, visit}
use Rattle.trim_split.specs.of_trim_model.Claim.{Any}
use Rattle.trim_split.specs.of_trim_state.Trace.{splitting}
use Rattle.trim_split.specs.of_live_windows.Live.{live_of}
use Rattle.trim_split.specs.of_cut_lists.Cut.{lengths, LeavesLists}
use Rattle.trim_split.specs.Running.{End, stopped, at, Does}
use Rattle.trim_split.proofs.Loops.{WindowSlices, windows_of, snapshot_of}
use Rattle.trim_visit.specs.Visiting.{from, Kept, Visits1}
use Rattle.trim_visit.proofs.Lists.{turn_untouched, kept_untouched, turn_full, turn_none, kept_none, turn_split, kept_split}
use Rattle.trim_split.specs.of_cut_lists.Buffers.{Cuts}

module _ (e : ℕ) (t : Float) (w x : WindowRecord) (id made queued last k : ℕ) (s : WindowSlices) (c : Cuts) (fits : made ≤ windows_of s) (inside : id < made) where
  abbrev new : Window
  new = live_of w 0

  abbrev old : Window
  old = live_of x id

  abbrev kept : List Interval
  kept = pairs k c.keep

  abbrev size : ℕ
  size = length c.pts

  abbrev pub VisitDoes : (List Float → End) → Type 0
  VisitDoes end = (limit : Float) (flags : List ℕ) (vertex : List Float) → Visits1 size (windows_of s) limit flags e t new kept old (snapshot_of s made queued last vertex) (end vertex)

  abbrev pub VisitKeeps : ℕ → ℕ → List Float → Type 0
  VisitKeeps made' k' keep' = Kept size made' k' keep' (visit better_of t new old (from kept made))

  -- the window stays, and is the last now
  there : (at1 : ℕ) → at1 ≡ suc id → VisitDoes (λ vertex. at (snapshot_of s made queued (suc id) vertex)) → VisitDoes (λ vertex. at (snapshot_of s made queued at1 vertex))
  there at1 h d limit flags vertex = subst (λ (n : ℕ). Visits1 size (windows_of s) limit flags e t new kept old (snapshot_of s made queued last vertex) (at (snapshot_of s made queued n vertex))) (sym h) (d limit flags vertex)

  module _ (lo hi : Float) (isLo : lo ≡ shared_lo new old) (isHi : hi ≡ shared_hi new old) where
    shared : hi ⊖ lo ≡ shared_hi new old ⊖ shared_lo new old
    shared = rw (isLo, isHi)

    pub visit_passes : le (hi ⊖ lo) t ≡ true → (at1 : ℕ) → at1 ≡ suc id → VisitDoes (λ vertex. at (snapshot_of s made queued at1 vertex))
    visit_passes h at1 is = there at1 is (λ limit flags vertex. turn_untouched size (windows_of s) limit flags e t new old kept (snapshot_of s made queued last vertex) (ap (λ (y : Float). le y t) (sym shared) ∙ h) inside fits)

    pub keeps_passes : le (hi ⊖ lo) t ≡ true → k ≤ size → (nan : Float) → VisitKeeps made k c.keep
    keeps_passes h few nan = kept_untouched size (windows_of s) nan [] e t new old kept (snapshot_of s made queued last []) (ap (λ (y : Float). le y t) (sym shared) ∙ h) k c.keep few refl

    module _ (wider : le (hi ⊖ lo) t ≡ false) where
      wide : le (shared_hi new old ⊖ shared_lo new old) t ≡ false
      wide = ap (λ (y : Float). le y t) (sym shared) ∙ wider

      abbrev gs : List Interval
      gs = better_of w.win.src x.win.src (shared_lo new old) (shared_hi new old)

      pub visit_full : Any (λ (n : ℕ). size < n) (lengths w.win.src x.win.src lo hi x.win.b0 x.win.b1 t kept) → VisitDoes (λ vertex. stopped 14)
      visit_full a limit flags vertex = turn_full size (windows_of s) limit flags e t new old kept (snapshot_of s made queued last vertex) wide
          (subst (λ (y : Float). Any (λ (n : ℕ). size < n) (lengths w.win.src x.win.src (shared_lo new old) y x.win.b0 x.win.b1 t kept)) isHi
          (subst (λ (y : Float). Any (λ (n : ℕ). size < n) (lengths w.win.src x.win.src y hi x.win.b0 x.win.b1 t kept)) isLo a))

      module _ (k' m n : ℕ) (keep' next' : List Float) (left : LeavesLists w.win.src x.win.src lo hi x.win.b0 x.win.b1 t size kept k' m n keep' next') where
        leaves : LeavesLists w.win.src x.win.src (shared_lo new old) (shared_hi new old) x.win.b0 x.win.b1 t size kept k' m n keep' next'
        leaves =
            subst (λ (y : Float). LeavesLists w.win.src x.win.src (shared_lo new old) y x.win.b0 x.win.b1 t size kept k' m n keep' next') isHi
            (subst (λ (y : Float). LeavesLists w.win.src x.win.src y hi x.win.b0 x.win.b1 t size kept k' m n keep' next') isLo left)

        pub visit_none : m ≡ 0 → (at1 : ℕ) → at1 ≡ suc id → VisitDoes (λ vertex. at (snapshot_of s made queued at1 vertex))
        visit_none z at1 is = there at1 is (λ limit flags vertex. turn_none size (windows_of s) limit flags e t new old kept (snapshot_of s made queued last vertex) wide leaves.fits (leaves.lost ∙ z) inside fits)

        pub keeps_none : m ≡ 0 → (nan : Float) → VisitKeeps made k' keep'
        keeps_none z nan = kept_none size (windows_of s) nan [] e t new old kept (snapshot_of s made queued last []) wide leaves.fits (leaves.lost ∙ z) k' keep' leaves.few leaves.kept

        some : (m ≡ 0 → ⊥) → 0 < m
        some z = omega (arith, z)

        lost : 0 < m → 0 < length gs
        lost i = subst (λ (j : ℕ). 0 < j) (sym leaves.lost) i

        pub pieces_fit : (m ≡ 0 → ⊥) → length next' ≡ size + size → n + n ≤ length next'
        pieces_fit z h = fit (leaves.rest (some z)).0 h
          where
            fit : n ≤ size → length next' ≡ size + size → n + n ≤ length next'
            fit i j = omega (arith, i, j)

        pub visit_split : (m ≡ 0 → ⊥) → (end : List Float → End)
            → ((cuts : ℕ) (limit : Float) (flags : List ℕ) (vertex : List Float) → Does cuts (windows_of s) limit flags e (splitting e old made (pairs n next')) (old ∷ []) (split old made (pairs n next')) (snapshot_of s made queued last vertex) (end vertex))
            → VisitDoes end
        visit_split z end d limit flags vertex = turn_split size (windows_of s) limit flags e t new old kept (snapshot_of s made queued last vertex) wide leaves.fits (pairs n next') (leaves.rest (some z)).1 (lost (some z)) (end vertex) (d size limit flags vertex)

        pub keeps_split : (m ≡ 0 → ⊥) → (made' : ℕ) → made' ≡ made + pred (length (pairs n next')) → (nan : Float) → VisitKeeps made' k' keep'
        keeps_split z made' h nan = kept_split size (windows_of s) nan [] e t new old kept (snapshot_of s made queued last []) wide leaves.fits (pairs n next') (leaves.rest (some z)).1 (lost (some z)) made' k' keep' h leaves.few leaves.kept
