-- Where the least `low` of an edge's windows fails the Rust's test, no window of the edge passes it, since a sum rises with its operands and d does not change: the edge is passed over. Assumes nothing.
use Prim.Native.Nat.{ℕ, ◌-◌, ◌<◌}
use mathlib.Core.Bool.{true, false}
use mathlib.Core.List.{List, [], ◌∷◌}
use mathlib.Core.Logic.{◌≢◌}
use mathlib.Core.Path.{◌≡◌, refl, sym, ap, ◌∙◌}
use lib.Dec.{T, not_T}
use lib.Ieee.{Float, nan, inf, fin, binary64, add, lt, le, is_nan}
use lib.Ieee.Bits.{is_false}
use Rattle.std.specs.declared.option.Option.{Option}
use Rattle.std.specs.declared.option.Option.TheVariants.{Some, None}
use Rattle.float64.specs.Scalar.{min_of}
use Rattle.float64.specs.Notation.{◌⊕◌}
use Rattle.float_laws.proofs.Order.{Number, le_refl, le_trans, le_number_l, lt_number_l, lt_number_r, lt_not_le, le_lt_trans, past_infinity}
use Rattle.float_laws.proofs.MinMax.{min_le_l, min_le_r}
use Rattle.float_monotone.proofs.HypotOrder.{below_infinity}
use Rattle.float_monotone.proofs.SumOrder.{add_rises_r}
use Rattle.last_pass.proofs.laws_of_face_distance.Floors.{sum_number_r}
use Rattle.buffers.specs.declared.EdgeId.{EdgeId}
use Rattle.chains.specs.Chains.{Links, links, link_in, link_at}
use Rattle.last_pass.specs.of_mesh_readers.Readers.{side_in}
use Rattle.last_pass.specs.Buffers.{chain_behind}
use Rattle.last_pass.proofs.Chains.{chain_end, chain_next, chain_out}
use Rattle.face_query.specs.declared.LowWalk.{LowWalk}
use Rattle.face_query.specs.FaceDistance.{through_windows, records_on}
use Rattle.face_query.specs.Lows.{low_in, least_low, side_low, still_behind, walk_low}
use Rattle.face_query.proofs.Steps.{window_far}

-- ---- the turns of a walk
module _ (made : ℕ) (b : Links) (f : List Float) (e : ℕ) where
  -- the walk is over: nothing is left of it, or it may not go on
  pub walk_over : (left : ℕ) (s : LowWalk) → s.before ≡ None → walk_low made b f e left s ≡ s.low
  unfolding least_low
  walk_over left s h = ap (λ (t : Option ℕ). least_low f s.low (still_behind made b e left t)) h

  pub walk_out : (left : ℕ) (s : LowWalk) → left ≡ 0 → walk_low made b f e left s ≡ s.low
  unfolding least_low
  walk_out left s h = go s.before where
    go : (t : Option ℕ) → least_low f s.low (still_behind made b e left t) ≡ s.low
    go None = refl
    go (Some k) = ap (least_low f s.low) (chain_out made b e left k h)

  module _ (s : LowWalk) (k : ℕ) (m : s.before ≡ Some k) (r : ℕ) (read : r ≡ link_in made (link_at b e k)) (left : ℕ) (p : 0 < left) where
    going : walk_low made b f e left s ≡ least_low f s.low (chain_behind made b e left k)
    going = ap (λ (t : Option ℕ). least_low f s.low (still_behind made b e left t)) m

    pub walk_ends : r ≡ 0 → walk_low made b f e (left - 1) (record { low = s.low; before = None }) ≡ walk_low made b f e left s
    walk_ends z = sym (going ∙ ap (least_low f s.low) (chain_end made b e left k r read z))

    pub walk_on_lem : r ≢ 0 → (low : Float) → low ≡ min_of s.low (low_in f (r - 1)) → walk_low made b f e (left - 1) (record { low = low; before = Some r }) ≡ walk_low made b f e left s
    unfolding least_low
    walk_on_lem q low h =
        ap (λ (v : Float). least_low f v (chain_behind made b e (left - 1) r)) h
        ∙ sym (going ∙ ap (least_low f s.low) (chain_next made b e left k r read p q))

  pub walk_stays : (s : LowWalk) → s.before ≡ None → (left : ℕ) → walk_low made b f e (left - 1) s ≡ walk_low made b f e left s
  walk_stays s h left = walk_over (left - 1) s h ∙ sym (walk_over left s h)

-- ---- what the least value says of the windows
least_below : (f : List Float) (low : Float) (is : List ℕ) → Number low → T (le (least_low f low is) low)
unfolding least_low
least_below f low [] n = le_refl low n
least_below f low (i ∷ is) n =
    let k = min_le_l low (low_in f i) n in
    le_trans (least_low f (min_of low (low_in f i)) is) (min_of low (low_in f i)) low (least_below f (min_of low (low_in f i)) is (le_number_l (min_of low (low_in f i)) low k)) k

-- a lower operand passes a test that a higher one passes
nearer_still : (y l v d : Float) → T (le l v) → T (lt (y ⊕ v) d) → T (lt (y ⊕ l) d)
unfolding add le is_nan
nearer_still nan l v d h t = absurd (lt_number_l nan d t)
nearer_still (inf false) l nan d h t = absurd (lt_number_l nan d t)
nearer_still (inf false) l (inf true) d h t = absurd (lt_number_l nan d t)
nearer_still (inf false) l (inf false) d h t = absurd (lt_not_le (inf false) d t (below_infinity d (lt_number_r (inf false) d t)))
nearer_still (inf false) l (fin u n e) d h t = absurd (lt_not_le (inf false) d t (below_infinity d (lt_number_r (inf false) d t)))
nearer_still (inf true) l nan d h t = absurd (lt_number_l nan d t)
nearer_still (inf true) l (inf false) d h t = absurd (lt_number_l nan d t)
nearer_still (inf true) nan (inf true) d h t = absurd (le_number_l nan (inf true) h)
nearer_still (inf true) (inf true) (inf true) d h t = t
nearer_still (inf true) (inf false) (inf true) d h t = absurd h
nearer_still (inf true) (fin u n e) (inf true) d h t = t
nearer_still (inf true) nan (fin u n e) d h t = absurd (le_number_l nan (fin u n e) h)
nearer_still (inf true) (inf true) (fin u n e) d h t = t
nearer_still (inf true) (inf false) (fin u n e) d h t = absurd (past_infinity u n e h)
nearer_still (inf true) (fin s m g) (fin u n e) d h t = t
nearer_still (fin s m g) l v d h t = le_lt_trans (fin s m g ⊕ l) (fin s m g ⊕ v) d (add_rises_r binary64 (fin s m g) l v tt h) t

no_nearer : (y l v d : Float) → (Number v → T (le l v)) → lt (y ⊕ l) d ≡ false → lt (y ⊕ v) d ≡ false
no_nearer y l v d h e = is_false (lt (y ⊕ v) d) (not_T (lt (y ⊕ v) d) (λ t. no (nearer_still y l v d (h (sum_number_r y v (lt_number_l (y ⊕ v) d t))) t))) where
  no : T (lt (y ⊕ l) d) → ⊥
  no t = rw e at t

pub far_side : (w : List ℕ) (f : List Float) (x y d low : Float) (is : List ℕ) → Number low → lt (y ⊕ least_low f low is) d ≡ false → d ≡ through_windows x y d (records_on w f is)
unfolding least_low through_windows
far_side w f x y d low [] n h = refl
far_side w f x y d low (i ∷ is) n h =
    let l = min_of low (low_in f i) in
    let k = le_number_l l low (min_le_l low (low_in f i) n) in
    let t = no_nearer y (least_low f l is) (low_in f i) d (λ v. le_trans (least_low f l is) l (low_in f i) (least_below f l is k) (min_le_r low (low_in f i) v)) h in
    far_side w f x y d l is k h ∙ ap (λ (z : Float). through_windows x y z (records_on w f is)) (window_far w f i x y d (low_in f i) refl t)

-- ---- the same of a side of a face
module _ (edge_words triangle_words words : List ℕ) (reals : List Float) (made f i : ℕ) (e : EdgeId) (is : e ≡ record { 0 = side_in triangle_words f i }) (low : Float) where
  pub low_of_side : low ≡ least_low reals (inf false) (chain_behind made (links edge_words words) e.0 made 0) → low ≡ side_low edge_words triangle_words words reals made f i
  low_of_side h = h ∙ ap (λ (z : EdgeId). least_low reals (inf false) (chain_behind made (links edge_words words) z.0 made 0)) is

  pub side_far : low ≡ side_low edge_words triangle_words words reals made f i → (x y d : Float) → lt (y ⊕ low) d ≡ false → d ≡ through_windows x y d (records_on words reals (chain_behind made (links edge_words words) e.0 made 0))
  unfolding is_nan
  side_far h x y d t =
      let k = h ∙ sym (ap (λ (z : EdgeId). least_low reals (inf false) (chain_behind made (links edge_words words) z.0 made 0)) is) in
      far_side words reals x y d (inf false) (chain_behind made (links edge_words words) e.0 made 0) tt (sym (ap (λ (v : Float). lt (y ⊕ v) d) k) ∙ t)
