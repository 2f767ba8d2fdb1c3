-- Laws of `any_below`, `any_of` and `first_of`: what they mean, and how a loop or a row of tests finds them. Assumes nothing.
use Prim.Native.Nat.{ℕ, zero, suc, ◌+◌, ◌<◌, ◌≤◌}
use mathlib.Core.Path.{◌≡◌, refl, sym, ap, subst, ◌∙◌}
use mathlib.Core.Bool.{Bool, true, false, cond, ◌||◌, or-true}
use mathlib.Core.List.{List, [], ◌∷◌, ◌++◌}
use mathlib.Core.Logic.{⊎_elim}
use native.Mathlib.Nat.{le_of_suc-le-suc, not-suc-le-zero, eq-or-lt_of_le, le_antisymm}
use native.Mathlib.Numerals.{add-one}
use native.Mathlib.Omega.{arith}
use lib.ListN.{length, get_or, take}
use Rattle.std.specs.List.{list_any}
use Rattle.std.proofs.Math.Seq.{take-length}
use Rattle.std.proofs.lemmas.List.Folds.{list_any_more}
use Rattle.job_checks.specs.Any.{any_below, any_of, first_of}

-- a disjunction is false where both sides are
or_none_lem : {a b : Bool} → a ≡ false → b ≡ false → (a || b) ≡ false
or_none_lem e f = rw (e, f)

or_left_none : (a b : Bool) → (a || b) ≡ false → a ≡ false
or_left_none false b e = refl
or_left_none true b e = e

or_right_none : (a b : Bool) → (a || b) ≡ false → b ≡ false
or_right_none false b e = e
or_right_none true b e = absurd (let z : ◌≡◌ {A = Bool} true false = e in (let y : ◌≡◌ {A = ℕ} 0 1 = cc in omega arith))

module _ (p : ℕ → Bool) where
  -- A search: nothing found before it begins, nothing found after one more test, found, and nothing found at the end.
  pub none_yet : any_below p 0 ≡ false
  unfolding any_below
  none_yet = refl

  pub none_more : (i : ℕ) → any_below p i ≡ false → p i ≡ false → any_below p (i + 1) ≡ false
  unfolding any_below
  none_more i e h = rw (add-one i, e, h)

  pub found : (i n : ℕ) → i < n → p i ≡ true → any_below p n ≡ true
  unfolding any_below
  found i zero l h = absurd (not-suc-le-zero l)
  found i (suc n) l h = ⊎_elim (λ e. rw (subst (λ (k : ℕ). p k ≡ true) e h) (or-true (any_below p n))) (λ l'. rw (found i n l' h)) (eq-or-lt_of_le (le_of_suc-le-suc l))

  pub none_at_all : (i n : ℕ) → i ≤ n → n ≤ i → any_below p i ≡ false → any_below p n ≡ false
  none_at_all i n l m e = subst (λ (k : ℕ). any_below p k ≡ false) (le_antisymm l m) e

  pub none_all : (n : ℕ) → ((i : ℕ) → i < n → p i ≡ false) → any_below p n ≡ false
  unfolding any_below
  none_all zero each = refl
  none_all (suc n) each = or_none_lem (none_all n (λ i l. each i (omega arith))) (each n (omega arith))

  -- What the answers mean.
  pub none_below : (n : ℕ) → any_below p n ≡ false → (i : ℕ) → i < n → p i ≡ false
  unfolding any_below
  none_below zero e i l = absurd (not-suc-le-zero l)
  none_below (suc n) e i l = ⊎_elim (λ q. subst (λ (k : ℕ). p k ≡ false) (sym q) (or_right_none (any_below p n) (p n) e)) (λ l'. none_below n (or_left_none (any_below p n) (p n) e) i l') (eq-or-lt_of_le (le_of_suc-le-suc l))

-- A test of each element, which a search by numbers makes as well.
module _ {A : Type 0} (p : A → Bool) (xs : List A) (d : A) where
  any_first : (n : ℕ) → n ≤ length xs → list_any p (take n xs) ≡ any_below (λ i. p (get_or xs i d)) n
  unfolding any_below
  any_first zero l = refl
  any_first (suc n) l = rw (← add-one n) (list_any_more p xs n d l) ∙ ap (λ (b : Bool). b || p (get_or xs n d)) (any_first n (omega arith))

  pub any_element : list_any p xs ≡ any_below (λ i. p (get_or xs i d)) (length xs)
  any_element = ap (list_any p) (sym (take-length xs)) ∙ any_first (length xs) (omega arith)

-- A row of tests, the first of them first.
module _ (b : Bool) (bs : List Bool) where
  pub one_holds : b ≡ true → any_of (b ∷ bs) ≡ true
  unfolding any_of
  one_holds e = rw e

  pub next_of : (r : Bool) → b ≡ false → any_of bs ≡ r → any_of (b ∷ bs) ≡ r
  unfolding any_of
  next_of r e f = rw (e, f)

  pub head_none : any_of (b ∷ bs) ≡ false → b ≡ false
  unfolding any_of
  head_none e = or_left_none b (any_of bs) e

  pub tail_none : any_of (b ∷ bs) ≡ false → any_of bs ≡ false
  unfolding any_of
  tail_none e = or_right_none b (any_of bs) e

pub none_of : any_of [] ≡ false
unfolding any_of
none_of = refl

-- The same of tests with numbers.
module _ (n : ℕ) (b : Bool) (ts : List (ℕ × Bool)) where
  pub first_holds : b ≡ true → first_of ((n, b) ∷ ts) ≡ n
  unfolding first_of
  first_holds e = rw e

  pub first_after : (r : ℕ) → b ≡ false → first_of ts ≡ r → first_of ((n, b) ∷ ts) ≡ r
  unfolding first_of
  first_after r e f = rw (e, f)

  -- None of the tests holds, where the first one's number is not 0.
  pub passed_here : 0 < n → first_of ((n, b) ∷ ts) ≡ 0 → b ≡ false
  unfolding first_of
  passed_here l e = go b e where
    go : (b : Bool) → cond b n (first_of ts) ≡ 0 → b ≡ false
    go false e = refl
    go true e = absurd (omega arith)

  pub passed_on : 0 < n → first_of ((n, b) ∷ ts) ≡ 0 → first_of ts ≡ 0
  unfolding first_of
  passed_on l e = rw (passed_here l e) at e

pub first_none : first_of [] ≡ 0
unfolding first_of
first_none = refl

-- no number is 0
abbrev pub Numbered : List (ℕ × Bool) → Type 0
Numbered [] = Unit {0}
Numbered (t ∷ ts) = (0 < t.0) × Numbered ts

-- Tests and more tests: the answer of the first ones where they have one, else that of the others.
module _ (us : List (ℕ × Bool)) where
  pub first_within : (ts : List (ℕ × Bool)) → 0 < first_of ts → first_of (ts ++ us) ≡ first_of ts
  unfolding first_of
  first_within [] l = absurd (not-suc-le-zero l)
  first_within (t ∷ ts) l = go t.1 l (first_within ts) where
    go : (b : Bool) → 0 < cond b t.0 (first_of ts) → (0 < first_of ts → first_of (ts ++ us) ≡ first_of ts) → cond b t.0 (first_of (ts ++ us)) ≡ cond b t.0 (first_of ts)
    go true l rest = refl
    go false l rest = rest l

  pub first_past : (ts : List (ℕ × Bool)) → Numbered ts → first_of ts ≡ 0 → first_of (ts ++ us) ≡ first_of us
  unfolding first_of
  first_past [] n e = refl
  first_past (t ∷ ts) n e = first_after t.0 t.1 (ts ++ us) (first_of us) (passed_here t.0 t.1 ts n.0 e) (first_past ts n.1 (passed_on t.0 t.1 ts n.0 e))

  pub both_passed : (ts : List (ℕ × Bool)) → Numbered ts → first_of (ts ++ us) ≡ 0 → (first_of ts ≡ 0) × (first_of us ≡ 0)
  unfolding first_of
  both_passed [] n e = (refl, e)
  both_passed (t ∷ ts) n e =
      let r = both_passed ts n.1 (passed_on t.0 t.1 (ts ++ us) n.0 e) in
      (first_after t.0 t.1 ts 0 (passed_here t.0 t.1 (ts ++ us) n.0 e) r.0, r.1)

-- The same where m is the first ones' answer.
module _ (ts us : List (ℕ × Bool)) (m : ℕ) (is : m ≡ first_of ts) where
  pub group_holds : 0 < m → first_of (ts ++ us) ≡ m
  group_holds l = first_within us ts (rw (← is) l) ∙ sym is

  pub group_passed : Numbered ts → (r : ℕ) → m ≡ 0 → first_of us ≡ r → first_of (ts ++ us) ≡ r
  group_passed n r z e = first_past us ts n (sym is ∙ z) ∙ e

-- What `first_of` means: where test k is the first that holds, it answers that test's number.
pub first_is : (ts : List (ℕ × Bool)) (k : ℕ) → (get_or ts k (0, false)).1 ≡ true → ((i : ℕ) → i < k → (get_or ts i (0, false)).1 ≡ false) → first_of ts ≡ (get_or ts k (0, false)).0
unfolding first_of
first_is [] k h before = absurd (let z : ◌≡◌ {A = ℕ} 0 1 = cc in omega arith)
first_is (t ∷ ts) zero h before = rw h
first_is (t ∷ ts) (suc k) h before = rw (before zero (omega arith)) (first_is ts k h (λ i l. before (suc i) (omega arith)))
