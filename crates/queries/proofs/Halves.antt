-- Where 20 passes, the starts along every edge's chain rise, so the Rust's search by halves (`by_halves`) finds what `edge_distance` counts. Assumes nothing.
use Prim.Native.Nat.{ℕ, zero, suc, ◌+◌, ◌*◌, ◌≤◌, ◌<◌}
use mathlib.Core.Bool.{Bool, true, false, not, cond}
use mathlib.Core.List.{List, [], ◌∷◌}
use mathlib.Core.Path.{◌≡◌}
use native.Mathlib.Omega.{arith}
use borrow.Author.Tests.{not-false}
use lib.Dec.{leb, ltb}
use lib.Ieee.{Float, nan, lt}
use lib.ListN.{length, get_or}
use Rattle.nat_laws.proofs.Tests.{holds}
use Rattle.layout.specs.Layout.{reals_per_window, window_b1}
use Rattle.windows.specs.Windows.{link_of, window_at, win_at}
use Rattle.chains.specs.Chains.{links, head_of, link_in, link_at}
use Rattle.job_checks.specs.Any.{any_below}
use Rattle.job_checks.proofs.Any.{none_below}
use Rattle.edge_query.specs.of_last_pass.Buffers.{from_link, chain_behind, wins_on}
use Rattle.computed.specs.declared.Field.{Field}
use Rattle.edge_query.specs.EdgeDistance.{partition_point}
use Rattle.edge_query.specs.Halves.{by_halves, starts_by, Rising}
use Rattle.edge_query.proofs.Halves.{halves_is}
use Rattle.field_check.specs.Chains.{links_from, any_bad, link_total, chain_of, chains_unsound}
use Rattle.field_check.specs.FieldCheck.{JobSlices, FieldSlices, window_start, not_rising, window_unsound, windows_unsound, entries_unsound, too_few_slots, counts_differ, meets_refusal, points_outside, lists_unsound, field_unsound}
use Rattle.queries.proofs.Checked.{left_none, right_none}

module _ (made : ℕ) (edge_words words : List ℕ) (f : List Float) (e : ℕ) where
  -- each start rises from that of the window of the link before it
  RisesFrom : ℕ → List ℕ → Type 0
  RisesFrom k [] = Unit {0}
  RisesFrom k (i ∷ is) = (not_rising f k i ≡ false) × RisesFrom (suc i) is

  -- a chain that ends early, by its count or by a link past the windows made, is the front of the one that was checked
  rises : (n m k : ℕ) → n ≤ m → any_bad (link_of words) (window_unsound f) k (links_from (link_of words) (window_unsound f) m (link_at (links edge_words words) e k)) ≡ false → RisesFrom k (chain_behind made (links edge_words words) e n k)
  unfolding RisesFrom from_link chain_behind link_in links_from any_bad window_unsound link_at
  rises zero m k h q = tt
  rises (suc n) zero k h q = absurd (omega (arith, h))
  rises (suc n) (suc m) k h q = go (λ i. rises n m (suc i) (omega (arith, h))) (link_at (links edge_words words) e k) (leb (link_at (links edge_words words) e k) made) q where
    go : ((i : ℕ) → any_bad (link_of words) (window_unsound f) (suc i) (links_from (link_of words) (window_unsound f) m (link_at (links edge_words words) e (suc i))) ≡ false → RisesFrom (suc i) (chain_behind made (links edge_words words) e n (suc i)))
        → (l : ℕ) (t : Bool) → any_bad (link_of words) (window_unsound f) k (links_from (link_of words) (window_unsound f) (suc m) l) ≡ false → RisesFrom k (from_link (cond t l 0) (chain_behind made (links edge_words words) e n))
    go on l false q = tt
    go on zero true q = tt
    go on (suc i) true q = (
      right_none (not (lt (window_start f i) (get_or f (reals_per_window * i + window_b1) nan))) (not_rising f k i) (left_none (window_unsound f k i) (any_bad (link_of words) (window_unsound f) (suc i) (links_from (link_of words) (window_unsound f) m (link_of words i))) q),
      on i (right_none (window_unsound f k i) (any_bad (link_of words) (window_unsound f) (suc i) (links_from (link_of words) (window_unsound f) m (link_of words i))) q),
    )

  rising : (k : ℕ) (is : List ℕ) → RisesFrom k is → Rising (wins_on words f is)
  unfolding RisesFrom Rising not_rising window_at win_at
  rising k [] r = tt
  rising k (i ∷ []) r = tt
  rising k (i ∷ i' ∷ is) r = (holds (lt (window_start f i) (window_start f i')) (not-false (lt (window_start f i) (window_start f i')) r.1.0), rising (suc i) (i' ∷ is) r.1)

module _ (n : Field) (j : JobSlices) (b : FieldSlices) (sound : field_unsound n j b ≡ false) (e : ℕ) (h : e < n.edges) where
  chain_sound : any_bad (link_of b.words) (window_unsound b.reals) 0 (links_from (link_of b.words) (window_unsound b.reals) (suc n.windows) (head_of b.edge_words_held e)) ≡ false
  unfolding field_unsound lists_unsound windows_unsound chains_unsound
  chain_sound =
      let next = link_of b.words in
      let bad = window_unsound b.reals in
      let head = head_of b.edge_words_held in
      let a = right_none (too_few_slots n b) _ sound in
      let c = right_none (counts_differ n j) _ a in
      let d = right_none (meets_refusal j) _ c in
      let l = right_none (points_outside n b) _ d in
      let w = left_none (windows_unsound b.edge_words_held b.words b.reals n.windows n.edges) (entries_unsound b.triangle_words_held b.entry_words_held n.pieces n.triangles) l in
      none_below (λ (k : ℕ). any_bad next bad 0 (chain_of next bad head n.windows k)) n.edges (right_none (ltb n.windows (link_total next bad head n.windows n.edges)) (any_below (λ (k : ℕ). any_bad next bad 0 (chain_of next bad head n.windows k)) n.edges) w) e h

  pub sound_rising : Rising (wins_on b.words b.reals (chain_behind n.windows (links b.edge_words_held b.words) e n.windows 0))
  unfolding link_at
  sound_rising =
      rising n.windows b.edge_words_held b.words b.reals e 0 (chain_behind n.windows (links b.edge_words_held b.words) e n.windows 0)
      (rises n.windows b.edge_words_held b.words b.reals e n.windows (suc n.windows) 0 (omega arith) chain_sound)

  pub sound_halves : (x : Float) → let ws = wins_on b.words b.reals (chain_behind n.windows (links b.edge_words_held b.words) e n.windows 0) in by_halves (starts_by x ws) (length ws) ≡ partition_point x ws
  sound_halves x = halves_is x (wins_on b.words b.reals (chain_behind n.windows (links b.edge_words_held b.words) e n.windows 0)) sound_rising
