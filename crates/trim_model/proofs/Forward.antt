-- One walk forward from the head of an edge's list finds the run: the windows to be passed are those that start before the new one and end at or before its start less tiny. Assumes nothing.
use Prim.Native.Nat.{◌<◌}
use mathlib.Core.Bool.{Bool, true, false, not, cond, ◌&&◌}
use mathlib.Core.List.{List, [], ◌∷◌, ◌++◌}
use mathlib.Core.Path.{◌≡◌, refl, ap, ◌∙◌}
use lib.Dec.{T}
use lib.Ieee.{Float, binary64, sub}
use lib.Ieee.Bits.{is_true}
use Rattle.float_laws.proofs.Order.{lt_trans}
use Rattle.trim_model.specs.Windows.{Window, take_while, drop_while, all, take_while_end, drop_while_end}
use Rattle.trim_model.specs.Add.{starts_before, ends_after, before, onward, passes}
use Rattle.better.specs.Claim.{All}
use Rattle.trim_model.proofs.Ranks.{rank, rank_lt, by_cases}
use Rattle.trim_model.proofs.Lists.{take_drop}
use Rattle.trim_model.proofs.Windows.{Steps, Ordered, ordered_right, Wide}
use Rattle.trim_model.proofs.Order.{Tidy}

module _ (t : Float) (w : Window) where
  abbrev q : Window → Bool
  q = starts_before w.b0

  abbrev p : Window → Bool
  p = ends_after (sub binary64 w.b0 t)

  -- where one window ends after w's start less t, a later one does
  mono : (u v : Window) → Wide t u → Wide t v → rank u.b1 < rank v.b1 → T (p u) → T (p v)
  mono u v g k h i = lt_trans (sub binary64 w.b0 t) u.b1 v.b1 i (rank_lt g.point1 k.point1 h)

  all_pass : (u : Window) (l : List Window) → All (Wide t) (u ∷ l) → Steps u l → T (p u) → all p l ≡ true
  unfolding all
  all_pass u [] G o h = refl
  all_pass u (v ∷ vs) G o h = let k = mono u v G.0 G.1.0 o.1 h in ap (λ (c : Bool). c && all p vs) (is_true (p v) k) ∙ all_pass v vs G.1 o.2 k

  wide_leading : (l : List Window) → All (Wide t) l → All (Wide t) (take_while q l)
  unfolding take_while
  wide_leading [] G = tt
  wide_leading (u ∷ us) G = by_cases (λ (c : Bool). All (Wide t) (cond c (u ∷ take_while q us) [])) (q u) (λ y. (G.0, wide_leading us G.1)) (λ n. tt)

  steps_leading : (u : Window) (l : List Window) → Steps u l → Steps u (take_while q l)
  unfolding take_while
  steps_leading u [] o = tt
  steps_leading u (v ∷ vs) o = by_cases (λ (c : Bool). Steps u (cond c (v ∷ take_while q vs) [])) (q v) (λ y. (o.0, o.1, steps_leading v vs o.2)) (λ n. tt)

  before_of : (l : List Window) → All (Wide t) l → Ordered l → before t w l ≡ take_while (passes t w.b0) l
  unfolding drop_while_end take_while all
  before_of [] G o = refl
  before_of (u ∷ us) G o = go (q u) (before_of us G.1 (ordered_right (u ∷ []) us o))
    where
      M : List Window
      M = take_while q us

      in_it : (b : Bool) → (T b → T (p u)) → drop_while_end p M ≡ take_while (passes t w.b0) us → cond (b && all p M) [] (u ∷ drop_while_end p M) ≡ cond (not b) (u ∷ take_while (passes t w.b0) us) []
      in_it false f e = ap (λ (l : List Window). u ∷ l) e
      in_it true f e = ap (λ (c : Bool). cond c [] (u ∷ drop_while_end p M)) (all_pass u M (G.0, wide_leading us G.1) (steps_leading u us o) (f tt))

      go : (a : Bool) → drop_while_end p M ≡ take_while (passes t w.b0) us → drop_while_end p (cond a (u ∷ M) []) ≡ cond (a && not (p u)) (u ∷ take_while (passes t w.b0) us) []
      go false e = refl
      go true e = in_it (p u) (λ z. z) e

  onward_of : (l : List Window) → All (Wide t) l → Ordered l → onward t w l ≡ drop_while (passes t w.b0) l
  unfolding take_while_end take_while drop_while all
  onward_of [] G o = refl
  onward_of (u ∷ us) G o = go (q u) (onward_of us G.1 (ordered_right (u ∷ []) us o))
    where
      M : List Window
      M = take_while q us

      in_it : (b : Bool) → (T b → T (p u)) → take_while_end p M ++ drop_while q us ≡ drop_while (passes t w.b0) us → cond (b && all p M) (u ∷ M) (take_while_end p M) ++ drop_while q us ≡ cond (not b) (drop_while (passes t w.b0) us) (u ∷ us)
      in_it false f e = e
      in_it true f e =
          ap (λ (c : Bool). cond c (u ∷ M) (take_while_end p M) ++ drop_while q us) (all_pass u M (G.0, wide_leading us G.1) (steps_leading u us o) (f tt))
          ∙ ap (λ (l : List Window). u ∷ l) (take_drop q us)

      go : (a : Bool) → take_while_end p M ++ drop_while q us ≡ drop_while (passes t w.b0) us → take_while_end p (cond a (u ∷ M) []) ++ cond a (drop_while q us) (u ∷ us) ≡ cond (a && not (p u)) (drop_while (passes t w.b0) us) (u ∷ us)
      go false e = refl
      go true e = in_it (p u) (λ z. z) e

  pub before_is : (l : List Window) → Tidy t l → before t w l ≡ take_while (passes t w.b0) l
  before_is l h = before_of l h.wides h.ordered

  pub onward_is : (l : List Window) → Tidy t l → onward t w l ≡ drop_while (passes t w.b0) l
  onward_is l h = onward_of l h.wides h.ordered
