-- What holds of each element of a list, through append and from one property to another; and lists that functions make. Assumes nothing.
use Prim.Native.Nat.{ℕ, zero, suc, ◌<◌}
use mathlib.Core.Bool.{Bool, true, false, cond}
use mathlib.Core.List.{List, [], ◌∷◌, ◌++◌}
use mathlib.Core.Path.{◌≡◌, refl, sym, ap, ◌∙◌}
use native.Mathlib.Decide.{ℕ_discrete}
use native.Mathlib.Omega.{arith}
use lib.ListN.{length, get_or, length-append, get_or-append}
use lib.Seq.{get_or_at}
use Rattle.nat_laws.specs.Lists.{All, list_of, insert_by, sort_by}

module _ {A : Type 0} where
  -- what holds of everything
  pub all_of : (P : A → Type 0) (l : List A) → ((x : A) → P x) → All P l
  all_of P [] f = tt
  all_of P (x ∷ xs) f = (f x, all_of P xs f)

  pub all_map : {P Q : A → Type 0} → ((x : A) → P x → Q x) → (l : List A) → All P l → All Q l
  all_map f [] h = tt
  all_map f (x ∷ xs) h = (f x h.0, all_map f xs h.1)

  pub all_map2 : {P Q R : A → Type 0} → ((x : A) → P x → Q x → R x) → (l : List A) → All P l → All Q l → All R l
  all_map2 f [] h k = tt
  all_map2 f (x ∷ xs) h k = (f x h.0 k.0, all_map2 f xs h.1 k.1)

  module _ (P : A → Type 0) where
    pub all_append : (l m : List A) → All P l → All P m → All P (l ++ m)
    all_append [] m h k = k
    all_append (x ∷ xs) m h k = (h.0, all_append xs m h.1 k)

    pub all_left : (l m : List A) → All P (l ++ m) → All P l
    all_left [] m h = tt
    all_left (x ∷ xs) m h = (h.0, all_left xs m h.1)

    pub all_right : (l m : List A) → All P (l ++ m) → All P m
    all_right [] m h = h
    all_right (x ∷ xs) m h = all_right xs m h.1

  pub length_list_of : (n : ℕ) (f : ℕ → A) → length (list_of n f) ≡ n
  unfolding list_of
  length_list_of zero f = refl
  length_list_of (suc n) f = length-append (list_of n f) (f n ∷ []) ∙ simp (length_list_of n f) (omega arith)

  pub get_d_list_of : (n : ℕ) (f : ℕ → A) (i : ℕ) (d : A) → i < n → get_or (list_of n f) i d ≡ f i
  unfolding list_of
  get_d_list_of zero f i d h = absurd (omega arith)
  get_d_list_of (suc n) f i d h = go (ℕ_discrete i n) (get_d_list_of n f i d) where
    go : Dec (i ≡ n) → (i < n → get_or (list_of n f) i d ≡ f i) → get_or (list_of n f ++ (f n ∷ [])) i d ≡ f i
    go (yes e) r = get_or_at (list_of n f) (f n) [] d i (length_list_of n f ∙ sym e) ∙ ap f (sym e)
    go (no e) r = get_or-append (list_of n f) (f n ∷ []) d i (rw (length_list_of n f) (omega (arith, e))) ∙ r (omega (arith, e))

  -- functions that agree below n make the same list
  pub list_of_same : (n : ℕ) (f g : ℕ → A) → ((j : ℕ) → j < n → g j ≡ f j) → list_of n g ≡ list_of n f
  unfolding list_of
  list_of_same zero f g h = refl
  list_of_same (suc n) f g h =
      ap (λ l. l ++ (g n ∷ [])) (list_of_same n f g (λ j l. h j (omega arith))) ∙ ap (λ x. list_of n f ++ (x ∷ [])) (h n (omega arith))

-- what holds of each stays so where a list is put in order
module _ {A : Type 0} (before : A → A → Bool) (P : A → Type 0) where
  pub all_insert_by : (u : A) (l : List A) → P u → All P l → All P (insert_by before u l)
  unfolding insert_by
  all_insert_by u [] h k = (h, tt)
  all_insert_by u (v ∷ vs) h k = go (before v u) (all_insert_by u vs h k.1) where
    go : (c : Bool) → All P (insert_by before u vs) → All P (cond c (v ∷ insert_by before u vs) (u ∷ v ∷ vs))
    go true r = (k.0, r)
    go false r = (h, k)

  pub all_sort_by : (l : List A) → All P l → All P (sort_by before l)
  unfolding sort_by
  all_sort_by [] h = tt
  all_sort_by (u ∷ us) h = all_insert_by u (sort_by before us) h.0 (all_sort_by us h.1)
