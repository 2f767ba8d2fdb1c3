-- Lists: what holds of each element, or of some element, through append, and the parts that a test cuts a list into. Assumes nothing.
use mathlib.Core.Bool.{Bool, true, false, cond}
use mathlib.Core.List.{List, [], ◌∷◌, ◌++◌}
use mathlib.Core.Logic.{◌⊎◌, inl, inr}
use mathlib.Core.Path.{◌≡◌, refl, ap}
use lib.Dec.{T}
use Rattle.trim_model.specs.Intervals.{push_if}
use Rattle.trim_model.specs.Windows.{take_while, drop_while, all, take_while_end, drop_while_end}
use Rattle.better.specs.Claim.{All}
pub use Rattle.nat_laws.proofs.Lists.{all_map, all_map2, all_append, all_left, all_right}
use Rattle.trim_model.specs.Claim.{Any}
use Rattle.trim_model.proofs.Ranks.{by_cases}

module _ {A : Type 0} where
  pub take_drop : (p : A → Bool) (l : List A) → take_while p l ++ drop_while p l ≡ l
  unfolding take_while drop_while
  take_drop p [] = refl
  take_drop p (u ∷ us) = by_cases (λ (c : Bool). cond c (u ∷ take_while p us) [] ++ cond c (drop_while p us) (u ∷ us) ≡ u ∷ us) (p u) (λ y. ap (λ (l : List A). u ∷ l) (take_drop p us)) (λ n. refl)

  pub drop_take_end : (p : A → Bool) (l : List A) → drop_while_end p l ++ take_while_end p l ≡ l
  unfolding drop_while_end take_while_end
  drop_take_end p [] = refl
  drop_take_end p (u ∷ us) = by_cases (λ (c : Bool). cond c [] (u ∷ drop_while_end p us) ++ cond c (u ∷ us) (take_while_end p us) ≡ u ∷ us) (all p (u ∷ us)) (λ y. refl) (λ n. ap (λ (l : List A). u ∷ l) (drop_take_end p us))

  pub any_left : (P : A → Type 0) (l m : List A) → Any P l → Any P (l ++ m)
  any_left P [] m h = absurd h
  any_left P (x ∷ xs) m (inl h) = inl h
  any_left P (x ∷ xs) m (inr h) = inr (any_left P xs m h)

  pub any_right : (P : A → Type 0) (l m : List A) → Any P m → Any P (l ++ m)
  any_right P [] m h = h
  any_right P (x ∷ xs) m h = inr (any_right P xs m h)

  pub any_split : (P : A → Type 0) (l m : List A) → Any P (l ++ m) → Any P l ⊎ Any P m
  any_split P [] m h = inr h
  any_split P (x ∷ xs) m (inl h) = inl (inl h)
  any_split P (x ∷ xs) m (inr h) = elim (any_split P xs m h) [ inl k ↦ inl (inr k) | inr k ↦ inr k ]

  pub any_if : (P : A → Type 0) (b : Bool) (x : A) → T b → P x → Any P (push_if b x)
  any_if P true x h k = inl k
  any_if P false x h k = absurd h

  -- by an element's own property
  pub any_of : {P Q R : A → Type 0} → ((x : A) → P x → Q x → R x) → (l : List A) → All P l → Any Q l → Any R l
  any_of f [] a h = h
  any_of f (x ∷ xs) a (inl h) = inl (f x a.0 h)
  any_of f (x ∷ xs) a (inr h) = inr (any_of f xs a.1 h)
