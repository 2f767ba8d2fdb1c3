-- Laws of looking an edge up and of entering it. Assumes nothing.
use Prim.Native.Nat.{ℕ, suc, ◌<◌, ◌≤◌}
use mathlib.Core.Path.{◌≡◌, refl, sym, ap, subst, ◌∙◌}
use mathlib.Core.Bool.{Bool, true, false, and-eq-true_iff}
use mathlib.Core.List.{List, [], ◌∷◌, ◌++◌}
use mathlib.Core.Logic.{⊎_elim, ◌⊎◌, inl, inr}
use native.Mathlib.Nat.{le_of_suc-le-suc, not-suc-le-zero, eq-or-lt_of_le}
use native.Mathlib.Omega.{arith}
use borrow.Author.Tests.{eqb-true, eq-eqb, ltb-true, ltb-false}
use lib.Dec.{ltb, eqb}
use lib.ListN.{length, get_or, length-append, get_or-append}
use lib.Seq.{get_or-append_seam}
use Rattle.topology.specs.Edges.{EndPair, no_edge, same_edge, find, enter}

edge_ext : (x y : EndPair) → x.low ≡ y.low → x.high ≡ y.high → x ≡ y
edge_ext x y p q = λ i. record { low = p i; high = q i }

pub same_edge_lem : (x y : EndPair) → same_edge x y ≡ true → x ≡ y
same_edge_lem x y e = edge_ext x y (eqb-true x.low y.low ((and-eq-true_iff (eqb x.low y.low) (eqb x.high y.high)).0 e).0) (eqb-true x.high y.high ((and-eq-true_iff (eqb x.low y.low) (eqb x.high y.high)).0 e).1)

pub same_self : (x : EndPair) → same_edge x x ≡ true
same_self x = rw (eq-eqb x.low x.low refl, eq-eqb x.high x.high refl)

-- a test that is either way
pub either : (b : Bool) → (b ≡ true) ⊎ (b ≡ false)
either true = inl refl
either false = inr refl

-- A list that has e, at find e, and one that does not.
module _ (e : EndPair) where
  pub find_at : (es : List EndPair) → find e es < length es → get_or es (find e es) no_edge ≡ e
  unfolding find
  find_at [] l = absurd (not-suc-le-zero l)
  find_at (x ∷ es) l =
      ⊎_elim (λ q. rw q (same_edge_lem x e q))
      (λ q. let l' : suc (find e es) < suc (length es) = rw q at l in rw q (find_at es (le_of_suc-le-suc l')))
      (either (same_edge x e))

  pub find_append : (es xs : List EndPair) → find e es < length es → find e (es ++ xs) ≡ find e es
  unfolding find
  find_append [] xs l = absurd (not-suc-le-zero l)
  find_append (x ∷ es) xs l =
      ⊎_elim (λ q. rw q)
      (λ q. let l' : suc (find e es) < suc (length es) = rw q at l in rw q (ap suc (find_append es xs (le_of_suc-le-suc l'))))
      (either (same_edge x e))

  pub find_last : (es : List EndPair) → length es ≤ find e es → find e (es ++ (e ∷ [])) ≡ length es
  unfolding find
  find_last [] l = rw (same_self e)
  find_last (x ∷ es) l =
      ⊎_elim (λ q. let l' : suc (length es) ≤ 0 = rw q at l in absurd (not-suc-le-zero l'))
      (λ q. let l' : suc (length es) ≤ suc (find e es) = rw q at l in rw q (ap suc (find_last es (le_of_suc-le-suc l'))))
      (either (same_edge x e))

-- Entering an edge: it is there afterwards, and so is what was there, under the same number.
module _ (es : List EndPair) (x : EndPair) where
  -- it was there, or it is appended
  pub entered : ((find x es < length es) × (enter es x ≡ es)) ⊎ ((length es ≤ find x es) × (enter es x ≡ es ++ (x ∷ [])))
  unfolding enter
  entered = ⊎_elim (λ q. inl (ltb-true _ _ q, rw q)) (λ q. inr (ltb-false _ _ q, rw q)) (either (ltb (find x es) (length es)))

  pub enter_longer : (length (enter es x) ≡ length es) ⊎ (length (enter es x) ≡ suc (length es))
  enter_longer = ⊎_elim (λ w. inl (ap length w.1)) (λ w. inr (ap length w.1 ∙ (length-append es (x ∷ []) ∙ omega arith))) entered

  pub enter_has : find x (enter es x) < length (enter es x)
  enter_has =
      ⊎_elim (λ w. subst (λ (l : List EndPair). find x l < length l) (sym w.1) w.0)
      (λ w. subst (λ (l : List EndPair). find x l < length l) (sym w.1) (rw (find_last x es w.0, length-append es (x ∷ [])) (omega arith)))
      entered

  pub enter_keeps : (e : EndPair) → find e es < length es → find e (enter es x) ≡ find e es
  enter_keeps e l =
      ⊎_elim (λ w. ap (find e) w.1) (λ w. ap (find e) w.1 ∙ find_append e es (x ∷ []) l) entered

  pub enter_grows : length es ≤ length (enter es x)
  enter_grows = ⊎_elim (λ w. omega arith) (λ w. omega arith) enter_longer

-- What holds of each edge of a list and of x holds of each once x is entered.
module _ (P : EndPair → Type 0) (es : List EndPair) (x : EndPair) (each : (i : ℕ) → i < length es → P (get_or es i no_edge)) (here : P x) where
  each_append : (i : ℕ) → i < length (es ++ (x ∷ [])) → P (get_or (es ++ (x ∷ [])) i no_edge)
  each_append i l =
      let l' : i < suc (length es) = omega (arith, length-append es (x ∷ []), l) in
      ⊎_elim (λ q. subst (λ (k : ℕ). P (get_or (es ++ (x ∷ [])) k no_edge)) (sym q) (subst P (sym (get_or-append_seam es x [] no_edge)) here))
      (λ m. subst P (sym (get_or-append es (x ∷ []) no_edge i m)) (each i m))
      (eq-or-lt_of_le (le_of_suc-le-suc l'))

  pub each_enter : (i : ℕ) → i < length (enter es x) → P (get_or (enter es x) i no_edge)
  each_enter =
      ⊎_elim (λ w. subst (λ (s : List EndPair). (i : ℕ) → i < length s → P (get_or s i no_edge)) (sym w.1) each)
      (λ w. subst (λ (s : List EndPair). (i : ℕ) → i < length s → P (get_or s i no_edge)) (sym w.1) each_append)
      (entered es x)

-- No edge stands twice: each is found at its own place.
abbrev pub Numbered : List EndPair → Type 0
Numbered es = (i : ℕ) → i < length es → find (get_or es i no_edge) es ≡ i

module _ (es : List EndPair) (x : EndPair) (all : Numbered es) where
  numbered_append : length es ≤ find x es → Numbered (es ++ (x ∷ []))
  numbered_append fresh i l =
      let l' : i < suc (length es) = omega (arith, length-append es (x ∷ []), l) in
      ⊎_elim (λ q. subst (λ (k : ℕ). find (get_or (es ++ (x ∷ [])) k no_edge) (es ++ (x ∷ [])) ≡ k) (sym q) (rw (get_or-append_seam es x [] no_edge) (find_last x es fresh)))
      (λ m. rw (get_or-append es (x ∷ []) no_edge i m) (find_append (get_or es i no_edge) es (x ∷ []) (rw (all i m) m) ∙ all i m))
      (eq-or-lt_of_le (le_of_suc-le-suc l'))

  pub numbered_enter : Numbered (enter es x)
  numbered_enter = ⊎_elim (λ w. subst Numbered (sym w.1) all) (λ w. subst Numbered (sym w.1) (numbered_append w.0)) (entered es x)
