-- A number in either form is read as it was written, and what is read is what was written. Assumes nothing.
-- One induction each way over the groups that may follow; callers know numbers only by `number_read` and `number_stood`.
use Prim.Native.Nat.{ℕ, zero, suc, ◌+◌, ◌-◌, ◌*◌, ◌/◌, ◌%◌, ◌≤◌, ◌<◌}
use native.Mathlib.Omega.{arith}
use native.Mathlib.Decide.{dec_le}
use mathlib.Core.Path.{◌≡◌, refl, sym, ap, ◌∙◌}
use mathlib.Core.Bool.{Bool, true, false, cond}
use mathlib.Core.List.{List, [], ◌∷◌, ◌++◌}
use borrow.Author.Tests.{lt-ltb, le-ltb, ltb-true, ltb-false, ne_eqb, eqb-false}
use lib.Dec.{eqb, ltb}
use lib.ListN.{length, get_or, drop}
use Rattle.std.specs.Prelude.{Result, Ok, Err}
use Rattle.little_endian.specs.Bytes.{number_from, number_bytes}
use Rattle.groups.specs.declared.Form.{Form}
use Rattle.groups.specs.declared.Form.TheVariants.{Plain, Groups}
use Rattle.groups.specs.declared.NumberRefusal.{NumberRefusal}
use Rattle.groups.specs.declared.NumberRefusal.TheVariants.{Short, Over}
use Rattle.groups.specs.Groups.{groups_of, joined_group, group_at, grouped, number_at, number_of}
use Rattle.groups.proofs.Small.{same_number, groups_small}
use Rattle.groups.proofs.Putting.{most, one_group, more_groups}
use Rattle.slip_laws.specs.Plain.{IsByte}
use Rattle.slip_laws.proofs.Parts.{past, reaches, first_here, number_here}
use Rattle.slip_write.proofs.Lengths.{length_number}
use Rattle.slip_laws.proofs.Stands.{Stands, stands_then, stands_byte, number_below, number_stands}

-- a number that is read, and the place behind it
abbrev pub read_as : ℕ → ℕ → Result (ℕ × ℕ) NumberRefusal
read_as n j = Ok (n, j)

-- ---- read as it was written

pub front : (s : List ℕ) (i x : ℕ) (rest : List ℕ) → drop i s ≡ x ∷ rest → (i < length s) × ((get_or s i 0 ≡ x) × (drop (i + 1) s ≡ rest))
front s i x rest h = (omega (arith, reaches s i (x ∷ []) rest (omega arith) h), (first_here s i x rest h, past s i (x ∷ []) rest 1 refl h))

single : (s : List ℕ) (i : ℕ) (x : Result (ℕ × ℕ) NumberRefusal) → i < length s → get_or s i 0 < 128 → group_at s i x ≡ read_as (get_or s i 0) (i + 1)
unfolding group_at
single s i x l h = rw (lt-ltb i (length s) l, lt-ltb (get_or s i 0) 128 h)

followed : (s : List ℕ) (i : ℕ) (x : Result (ℕ × ℕ) NumberRefusal) → i < length s → 128 ≤ get_or s i 0 → group_at s i x ≡ x
unfolding group_at
followed s i x l h = rw (lt-ltb i (length s) l, le-ltb (get_or s i 0) 128 h)

joined_is : (low n j : ℕ) → 0 < n → low + 128 * n < 4_294_967_296 → joined_group low (read_as n j) ≡ read_as (low + 128 * n) j
unfolding joined_group
joined_is low n j h l = rw (ne_eqb n 0 (λ e. omega (arith, e)), le-ltb 4_294_967_295 (low + 128 * n) (omega arith))

single_read : (k n : ℕ) (s : List ℕ) (i : ℕ) (rest : List ℕ) → n < 128 → drop i s ≡ n ∷ rest → grouped s i k ≡ read_as n (i + 1)
unfolding grouped
single_read zero n s i rest h e =
    let f = front s i n rest e in single s i (Err Over) f.0 (rw f.1.0 h) ∙ ap (λ (x : ℕ). read_as x (i + 1)) f.1.0
single_read (suc k) n s i rest h e =
    let f = front s i n rest e in
    single s i (joined_group (get_or s i 0 - 128) (grouped s (i + 1) k)) f.0 (rw f.1.0 h) ∙ ap (λ (x : ℕ). read_as x (i + 1)) f.1.0

groups_read : (k n : ℕ) (s : List ℕ) (i : ℕ) (rest : List ℕ) → n < most k → n < 4_294_967_296 → drop i s ≡ groups_of k n ++ rest
    → grouped s i k ≡ read_as n (i + length (groups_of k n))
unfolding most grouped
groups_read zero n s i rest hm hn e = rw (one_group zero n hm) (single_read zero n s i rest hm (rw (one_group zero n hm) at e))
groups_read (suc k) n s i rest hm hn e =
    go (dec_le 128 n) (λ d. groups_read k (n / 128) s (i + 1) rest (omega arith) (omega arith) d)
  where
    go : Dec (128 ≤ n) → (drop (i + 1) s ≡ groups_of k (n / 128) ++ rest → grouped s (i + 1) k ≡ read_as (n / 128) (i + 1 + length (groups_of k (n / 128))))
        → grouped s i (suc k) ≡ read_as n (i + length (groups_of (suc k) n))
    go (no q) behind =
        let one = one_group (suc k) n (omega (arith, q)) in rw one (single_read (suc k) n s i rest (omega (arith, q)) (rw one at e))
    go (yes h) behind =
        let some = more_groups k n h in
        let d : drop i s ≡ (128 + n % 128) ∷ (groups_of k (n / 128) ++ rest) = e ∙ ap (λ l. l ++ rest) some in
        let f = front s i (128 + n % 128) (groups_of k (n / 128) ++ rest) d in
        let low : get_or s i 0 - 128 ≡ n % 128 = omega (arith, f.1.0) in
        let all : n % 128 + 128 * (n / 128) ≡ n = omega arith in
        let place : i + 1 + length (groups_of k (n / 128)) ≡ i + length (groups_of (suc k) n) = rw some (omega arith) in
        followed s i (joined_group (get_or s i 0 - 128) (grouped s (i + 1) k)) f.0 (omega (arith, f.1.0))
        ∙ rw (low, behind f.1.1) (joined_is (n % 128) (n / 128) (i + 1 + length (groups_of k (n / 128))) (omega arith) (omega arith))
        ∙ (λ t. read_as (all t) (place t))

-- the law of reading, in either form
pub number_read : (form : Form) (n : ℕ) (s : List ℕ) (i : ℕ) (rest : List ℕ) → n < 4_294_967_296 → drop i s ≡ number_of form n ++ rest
    → number_at form s i ≡ read_as n (i + length (number_of form n))
unfolding number_at number_of
number_read Plain n s i rest h e =
    let four = length_number n in
    let long = reaches s i (number_bytes n) rest (omega (arith, four)) e in
    rw (le-ltb (length s) (i + 4) (omega (arith, long, four)), four) (ap (λ (x : ℕ). read_as x (i + 4)) (number_here s i n rest h e))
number_read Groups n s i rest h e = groups_read 4 n s i rest (let big : most 4 ≡ 34_359_738_368 = unfold most in refl in omega (arith, big)) h e

-- ---- what is read was written

-- how a group is read: it is the last, or it is joined to what stands behind it
group_cases : {P : Type 0} (s : List ℕ) (i : ℕ) (x : Result (ℕ × ℕ) NumberRefusal) (n j : ℕ) → group_at s i x ≡ read_as n j
    → (i < length s → get_or s i 0 < 128 → get_or s i 0 ≡ n → i + 1 ≡ j → P) → (i < length s → 128 ≤ get_or s i 0 → x ≡ read_as n j → P) → P
unfolding group_at
group_cases {P} s i x n j e last more = go (ltb i (length s)) (ltb (get_or s i 0) 128) refl refl e
  where
    go : (a b : Bool) → ltb i (length s) ≡ a → ltb (get_or s i 0) 128 ≡ b → cond a (cond b (read_as (get_or s i 0) (i + 1)) x) (Err Short) ≡ read_as n j → P
    go false b ea eb h = absurd (let z : ◌≡◌ {A = ℕ} 0 1 = cc h in omega arith)
    go true true ea eb h = let same = same_number h in last (ltb-true i (length s) ea) (ltb-true (get_or s i 0) 128 eb) same.0 same.1
    go true false ea eb h = more (ltb-true i (length s) ea) (ltb-false (get_or s i 0) 128 eb) h

joined_cases : (low : ℕ) (x : Result (ℕ × ℕ) NumberRefusal) (n j : ℕ) → joined_group low x ≡ read_as n j → (m : ℕ) × ((x ≡ read_as m j) × ((0 < m) × (n ≡ low + 128 * m)))
unfolding joined_group
joined_cases low (Err why) n j h = absurd (let z : ◌≡◌ {A = ℕ} 0 1 = cc h in omega arith)
joined_cases low (Ok (m, next)) n j h = go (eqb m 0) (ltb 4_294_967_295 (low + 128 * m)) refl h
  where
    go : (a b : Bool) → eqb m 0 ≡ a → cond a (Err Over) (cond b (Err Over) (read_as (low + 128 * m) next)) ≡ read_as n j → (m' : ℕ) × ((read_as m next ≡ read_as m' j) × ((0 < m') × (n ≡ low + 128 * m')))
    go true b ea h = absurd (let z : ◌≡◌ {A = ℕ} 0 1 = cc h in omega arith)
    go false true ea h = absurd (let z : ◌≡◌ {A = ℕ} 0 1 = cc h in omega arith)
    go false false ea h =
        let same = same_number h in
        (m, (ap (read_as m) same.1, (omega (arith, eqb-false m 0 ea), sym same.0)))

module _ (s : List ℕ) (bytes : (i : ℕ) → IsByte (get_or s i 0)) where
  last_stands : (k i n j : ℕ) → i < length s → get_or s i 0 < 128 → get_or s i 0 ≡ n → i + 1 ≡ j → Stands s i (groups_of k n) j
  last_stands k i n j l h en ej = rw (sym en, one_group k (get_or s i 0) h) (stands_byte s i j (sym ej) l)

  groups_stand : (k i n j : ℕ) → grouped s i k ≡ read_as n j → Stands s i (groups_of k n) j
  unfolding grouped
  groups_stand zero i n j e =
      group_cases s i (Err Over) n j e (λ l h en ej. last_stands zero i n j l h en ej) (λ l h x. absurd (let z : ◌≡◌ {A = ℕ} 0 1 = cc x in omega arith))
  groups_stand (suc k) i n j e =
      group_cases s i (joined_group (get_or s i 0 - 128) (grouped s (i + 1) k)) n j e (λ l h en ej. last_stands (suc k) i n j l h en ej)
      (λ l h x. let m = joined_cases (get_or s i 0 - 128) (grouped s (i + 1) k) n j x in more_stand m.0 l h m.1.1.0 m.1.1.1 (groups_stand k (i + 1) m.0 j m.1.0))
    where
      more_stand : (m : ℕ) → i < length s → 128 ≤ get_or s i 0 → 0 < m → n ≡ get_or s i 0 - 128 + 128 * m → Stands s (i + 1) (groups_of k m) j → Stands s i (groups_of (suc k) n) j
      more_stand m l h p en d =
          let high : n / 128 ≡ m = omega (arith, en, bytes i) in
          let low : 128 + n % 128 ≡ get_or s i 0 = omega (arith, en, bytes i) in
          rw (more_groups k n (omega (arith, en)), high, low)
          (stands_then s i (i + 1) j (get_or s i 0 ∷ []) (groups_of k m) (stands_byte s i (i + 1) refl l) d)

  -- the law of what was written, in either form
  pub number_stood : (form : Form) (i n j : ℕ) → number_at form s i ≡ read_as n j → Stands s i (number_of form n) j × (n < 4_294_967_296)
  unfolding number_at number_of
  number_stood Plain i n j e = go (ltb (length s) (i + 4)) refl e
    where
      go : (b : Bool) → ltb (length s) (i + 4) ≡ b → cond b (Err Short) (read_as (number_from s i) (i + 4)) ≡ read_as n j → Stands s i (number_bytes n) j × (n < 4_294_967_296)
      go true eb h = absurd (let z : ◌≡◌ {A = ℕ} 0 1 = cc h in omega arith)
      go false eb h =
          let same = same_number h in
          let en = same.0 in
          let ej = same.1 in
          (rw (sym en) (number_stands s bytes i j (sym ej) (omega (arith, ltb-false (length s) (i + 4) eb))), omega (arith, en, number_below s bytes i))
  number_stood Groups i n j e = (groups_stand 4 i n j e, (groups_small s i n j e).0)
