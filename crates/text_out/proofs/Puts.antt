-- Texts one behind the other. Assumes nothing.
use Prim.Native.Nat.{ℕ, suc, ◌+◌, ◌<◌}
use native.Mathlib.Nat.{add-zero}
use native.Mathlib.Numerals.{add-one}
use native.Mathlib.Omega.{arith}
use mathlib.Core.List.{List, [], ◌∷◌, ◌++◌}
use mathlib.Core.Path.{◌≡◌, refl, sym, ap, ◌∙◌}
use lib.ListN.{length, set, take, get_or, length-append}
use lib.Seq.{sets, length-sets, take-suc, length-take-le}
use Rattle.text_out.specs.Text.{Puts}

pub sets_append : (xs ys l : List ℕ) (i : ℕ) → sets (sets l i xs) (i + length xs) ys ≡ sets l i (xs ++ ys)
sets_append [] ys l i = rw add-zero
sets_append (x ∷ xs) ys l i = let e : i + suc (length xs) ≡ suc i + length xs = omega arith in rw e (sets_append xs ys (set l i x) (suc i))

pub puts_none : (l : List ℕ) (i : ℕ) → Puts l i [] l i
puts_none l i = record { holds = refl; ends = sym (add-zero i) }

pub puts_then : {l m n : List ℕ} {i j k : ℕ} {x y : List ℕ} → Puts l i x m j → Puts m j y n k → Puts l i (x ++ y) n k
puts_then {l} {m} {n} {i} {j} {k} {x} {y} p q = record {
  holds = q.holds ∙ rw (p.holds, p.ends) (sets_append x y l i);
  ends = q.ends ∙ rw (p.ends, length-append) (omega arith);
}

-- one byte more of a text
pub puts_byte : (l m text : List ℕ) (i k : ℕ) → k < length text → m ≡ sets l i (take k text) → set m (i + k) (get_or text k 0) ≡ sets l i (take (k + 1) text)
puts_byte l m text i k h e =
    let n : length (take k text) ≡ k = length-take-le k text (omega arith) in
    rw (add-one k, take-suc text k 0 h, e) (ap (λ j. set (sets l i (take k text)) (i + j) (get_or text k 0)) (sym n) ∙ sets_append (take k text) (get_or text k 0 ∷ []) l i)

pub puts_length : {l m : List ℕ} {i j : ℕ} {x : List ℕ} → Puts l i x m j → length m ≡ length l
puts_length {l} {m} {i} {j} {x} p = ap length p.holds ∙ length-sets l i x
