-- A number that is read in groups is below 2 ^ 32, and takes at most five of them; so is one that is written. Assumes nothing.
use Prim.Native.Nat.{ℕ, zero, suc, ◌+◌, ◌-◌, ◌*◌, ◌/◌, ◌%◌, ◌<◌, ◌≤◌}
use native.Mathlib.Omega.{arith}
use mathlib.Core.Path.{◌≡◌, refl, sym, ap, ◌∙◌}
use mathlib.Core.Bool.{Bool, true, false, cond}
use mathlib.Core.List.{List, [], ◌∷◌}
use borrow.Author.Tests.{lt-ltb, le-ltb, ltb-true, ltb-false}
use Rattle.std.specs.Prelude.{Result, Ok, Err}
use lib.Dec.{eqb, ltb}
use lib.ListN.{length, get_or}
use Rattle.little_endian.specs.Bytes.{number_from, number_bytes}
use Rattle.groups.specs.declared.Form.{Form}
use Rattle.groups.specs.declared.Form.TheVariants.{Plain, Groups}
use Rattle.groups.specs.declared.NumberRefusal.{NumberRefusal}
use Rattle.groups.specs.declared.NumberRefusal.TheVariants.{Short, Over}
use Rattle.groups.specs.Groups.{groups_of, joined_group, group_at, grouped, number_at, number_of, Found}

-- a number below 2 ^ 32 and a place not past `far`
abbrev Near : ℕ → Result (ℕ × ℕ) NumberRefusal → Type 0
Near far x = (n next : ℕ) → x ≡ Ok (n, next) → (n < 4_294_967_296) × (next ≤ far)

near_refusal : (far : ℕ) (why : NumberRefusal) → Near far (Err why)
near_refusal far why n next e = absurd (let z : ◌≡◌ {A = ℕ} 0 1 = cc e in omega arith)

-- where two numbers are read as one, they are one, and so are the places behind them
pub same_number : {m j n next : ℕ} → ◌≡◌ {A = Result (ℕ × ℕ) NumberRefusal} (Ok (m, j)) (Ok (n, next)) → (m ≡ n) × (j ≡ next)
same_number e = let pair : ◌≡◌ {A = ℕ × ℕ} _ _ = cc e in (ap (λ (x : ℕ × ℕ). x.0) pair, ap (λ (x : ℕ × ℕ). x.1) pair)

near_is : (far m j : ℕ) → m < 4_294_967_296 → j ≤ far → Near far (Ok (m, j))
near_is far m j hm hj n next e =
    let same = same_number e in
    (omega (arith, same.0), omega (arith, same.1))

near_joined : (far low : ℕ) (x : Result (ℕ × ℕ) NumberRefusal) → Near far x → Near far (joined_group low x)
unfolding joined_group
near_joined far low (Err why) h = near_refusal far why
near_joined far low (Ok (m, j)) h = go (eqb m 0) (ltb 4_294_967_295 (low + 128 * m)) refl
  where
    go : (a b : Bool) → ltb 4_294_967_295 (low + 128 * m) ≡ b → Near far (cond a (Err Over) (cond b (Err Over) (Ok (low + 128 * m, j))))
    go true b e = near_refusal far Over
    go false true e = near_refusal far Over
    go false false e = near_is far (low + 128 * m) j (omega (arith, ltb-false 4_294_967_295 (low + 128 * m) e)) (h m j refl).1

near_group : (s : List ℕ) (i far : ℕ) (x : Result (ℕ × ℕ) NumberRefusal) → i + 1 ≤ far → Near far x → Near far (group_at s i x)
unfolding group_at
near_group s i far x l h = go (ltb i (length s)) (ltb (get_or s i 0) 128) refl
  where
    go : (a b : Bool) → ltb (get_or s i 0) 128 ≡ b → Near far (cond a (cond b (Ok (get_or s i 0, i + 1)) x) (Err Short))
    go false b e = near_refusal far Short
    go true true e = near_is far (get_or s i 0) (i + 1) (omega (arith, ltb-true (get_or s i 0) 128 e)) l
    go true false e = h

near_grouped : (s : List ℕ) (k i far : ℕ) → i + k + 1 ≤ far → Near far (grouped s i k)
unfolding grouped
near_grouped s zero i far l = near_group s i far (Err Over) (omega arith) (near_refusal far Over)
near_grouped s (suc k) i far l =
    near_group s i far (joined_group (get_or s i 0 - 128) (grouped s (i + 1) k)) (omega arith) (near_joined far (get_or s i 0 - 128) (grouped s (i + 1) k) (near_grouped s k (i + 1) far (omega arith)))

pub groups_small : (s : List ℕ) (i n next : ℕ) → grouped s i 4 ≡ Ok (n, next) → (n < 4_294_967_296) × (next ≤ i + 5)
groups_small s i n next e = near_grouped s 4 i (i + 5) (omega arith) n next e

pub number_near : (form : Form) (s : List ℕ) (i n next : ℕ) → number_at form s i ≡ Ok (n, next) → next ≤ i + 5
unfolding number_at
number_near Plain s i n next e = go (ltb (length s) (i + 4)) e
  where
    go : (b : Bool) → ◌≡◌ {A = Result (ℕ × ℕ) NumberRefusal} (cond b (Err Short) (Ok (number_from s i, i + 4))) (Ok (n, next)) → next ≤ i + 5
    go true h = absurd (let z : ◌≡◌ {A = ℕ} 0 1 = cc h in omega arith)
    go false h = omega (arith, (same_number h).1)
number_near Groups s i n next e = (groups_small s i n next e).1

groups_length : (k n : ℕ) → length (groups_of k n) ≤ suc k
unfolding groups_of
groups_length zero n = omega arith
groups_length (suc k) n = go (ltb n 128) (groups_length k (n / 128))
  where
    go : (b : Bool) → length (groups_of k (n / 128)) ≤ suc k → length (cond b (n ∷ []) ((128 + n % 128) ∷ groups_of k (n / 128))) ≤ suc (suc k)
    go true h = omega arith
    go false h = omega (arith, h)

pub number_length : (form : Form) (n : ℕ) → length (number_of form n) ≤ 5
unfolding number_of number_bytes
number_length Plain n = omega arith
number_length Groups n = groups_length 4 n

-- what the readers answer
pub short_found : (s : List ℕ) (i : ℕ) → length s < i + 4 → Found Plain s i (Err Short)
unfolding number_at
short_found s i l = record { answer = rw (lt-ltb (length s) (i + 4) l); small = near_refusal (i + 5) Short }

pub plain_found : (s : List ℕ) (i n : ℕ) → i + 4 ≤ length s → n ≡ number_from s i → n < 4_294_967_296 → Found Plain s i (Ok (n, i + 4))
unfolding number_at
plain_found s i n l e h = record { answer = rw (le-ltb (length s) (i + 4) l, e); small = near_is (i + 5) n (i + 4) h (omega arith) }

pub groups_found : (s : List ℕ) (i : ℕ) (r : Result (ℕ × ℕ) NumberRefusal) → r ≡ grouped s i 4 → Found Groups s i r
unfolding number_at
groups_found s i r e = record { answer = e; small = λ n next h. groups_small s i n next (sym e ∙ h) }

-- a group in front of what was read behind it
pub one_more : {a b : Result (ℕ × ℕ) NumberRefusal} (s : List ℕ) (i j k : ℕ) → j ≡ i + 1 → a ≡ grouped s j k → b ≡ group_at s i (joined_group (get_or s i 0 - 128) a) → b ≡ grouped s i (suc k)
unfolding grouped
one_more s i j k ej ea eb = eb ∙ ap (λ x. group_at s i (joined_group (get_or s i 0 - 128) x)) (ea ∙ ap (λ (p : ℕ). grouped s p k) ej)
