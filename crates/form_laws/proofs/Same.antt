-- The job that stands in a slip in groups is the job of the plain slip that it is moved to. Assumes nothing.
-- Bytes that are moved stand in both slips, so doubles and flags are the same; a number is written of what was read; and piece by piece both walks go on together.
use Prim.Native.Nat.{ℕ, zero, suc, ◌+◌, ◌-◌, ◌*◌, ◌≤◌, ◌<◌}
use native.Mathlib.Nat.{add-zero}
use native.Mathlib.Omega.{arith}
use mathlib.Core.Path.{◌≡◌, refl, sym, ap, ◌∙◌}
use mathlib.Core.Bool.{Bool, true, false, cond}
use mathlib.Core.List.{List, [], ◌∷◌, ◌++◌, append_assoc}
use borrow.Author.Tests.{ltb-false}
use lib.Dec.{eqb, ltb}
use lib.ListN.{length, get_or, take, drop, length-append, length-take, length-drop, get_or-append}
use lib.Seq.{get_or-drop, drop-drop}
use lib.Ieee.{of_bits, binary64}
use Rattle.nat_laws.proofs.Lists.{list_of_same}
use Rattle.little_endian.specs.Bytes.{number_from, double_from, doubles_from, numbers_from, bytes_from, number_bytes}
use Rattle.groups.specs.declared.Form.TheVariants.{Plain, Groups}
use Rattle.std.specs.Prelude.{Result, Ok, Err}
use Rattle.groups.specs.declared.NumberRefusal.{NumberRefusal}
use Rattle.groups.specs.Groups.{number_at, number_of}
use Rattle.slip_moves.specs.declared.Refusal.TheVariants.{TooShort, UnknownKind, LeftOver}
use Rattle.float64.specs.Scalar.{zero64}
use Rattle.slip.specs.Format.{pieces_from, piece_size, piece_from, second_double_at, piece_coords, kinds_in, faces_in, coords_in, job_in}
use Rattle.slip_moves.specs.Moves.{Part, put, stop, also, then, counted, bytes_moved, number_written, ends_size, number_moved, numbers_moved, piece_of_kind, piece_moved, pieces_moved, form_head_at, first_byte, head_bytes, mesh_moved, rest_moved, body_moved, ended, slip_moved}
use Rattle.slip_moves.proofs.Parts.{no_part}
use Rattle.slip_moves.proofs.Ways.{pieces_next, no_pieces}
use Rattle.slip_moves.proofs.Whole.{counted_head}
use Rattle.slip_laws.proofs.Parts.{past, number_here}
use Rattle.slip_write.proofs.Lengths.{length_number}
use Rattle.form_read.specs.Places.{value_read, place_behind, number_place, numbers_in, ends_from, piece_place, second_in, ends_in, kinds_from, faces_from, coords_from, flags_place, first_piece, job_at}
use Rattle.form_read.proofs.Parts.{put_of, is_put_lem, then_put, then_is, ends_bounds, bytes_put, numbers_put, mesh_put}
use Rattle.form_laws.proofs.Numbers.{read_as, number_stood}
use Rattle.form_laws.proofs.Turns.{Bytes}
use Rattle.form_laws.proofs.Back.{head_stood}

-- a part and what stands behind it, with the bytes of both
pub record Split (x : Part) (k : ℕ → Part) (j : ℕ) (bs : List ℕ) : Type 0 where
  pub middle : ℕ
  pub first : List ℕ
  pub rest : List ℕ
  pub one : x ≡ put middle first
  pub two : k middle ≡ put j rest
  pub all : first ++ rest ≡ bs

pub split : (x : Part) (k : ℕ → Part) (j : ℕ) (bs : List ℕ) → then x k ≡ put j bs → Split x k j bs
split x k j bs e =
    let a = then_put x k (is_put_lem (then x k) e) in
    let q = put_of (k a.0) a.2.1 in
    let both : put q.0 (a.1 ++ q.1) ≡ put j bs = sym (then_is x k a.2.0 q.2) ∙ e in
    let ej : q.0 ≡ j = cc both in
    record { middle = a.0; first = a.1; rest = q.1; one = a.2.0; two = q.2 ∙ ap (λ (i : ℕ). put i q.1) ej; all = cc both }

take_drop : (n : ℕ) (l : List ℕ) → l ≡ take n l ++ drop n l
take_drop zero l = refl
take_drop (suc n) [] = refl
take_drop (suc n) (x ∷ l) = ap (λ t. x ∷ t) (take_drop n l)

-- moved bytes: where they stand, how many they are
pub bytes_stand : (t : List ℕ) (n i j : ℕ) (bs : List ℕ) → bytes_moved t n i ≡ put j bs → (drop i t ≡ bs ++ drop j t) × ((length bs ≡ n) × (i + n ≡ j))
unfolding bytes_moved
bytes_stand t n i j bs e = go (ltb (length t) (i + n)) refl e
  where
    go : (b : Bool) → ltb (length t) (i + n) ≡ b → cond b (stop TooShort) (put (i + n) (take n (drop i t))) ≡ put j bs → (drop i t ≡ bs ++ drop j t) × ((length bs ≡ n) × (i + n ≡ j))
    go true eb h = no_part (sym h)
    go false eb h =
        let ej : i + n ≡ j = cc h in
        let es : take n (drop i t) ≡ bs = cc h in (
          take_drop n (drop i t) ∙ (λ k. es k ++ drop-drop n i t k) ∙ ap (λ (k : ℕ). bs ++ drop k t) ej,
          (ap length (sym es) ∙ rw (length-take, length-drop) (omega (arith, ltb-false (length t) (i + n) eb)), ej),
        )

-- bytes that stand in both slips
module _ (s t : List ℕ) (a i : ℕ) (Vs r₁ r₂ : List ℕ) (h₁ : drop a s ≡ Vs ++ r₁) (h₂ : drop i t ≡ Vs ++ r₂) where
  pub same_byte : (m : ℕ) → m < length Vs → get_or s (a + m) 0 ≡ get_or t (i + m) 0
  same_byte m l =
      sym (get_or-drop a s m 0) ∙ ap (λ x. get_or x m 0) h₁ ∙ get_or-append Vs r₁ 0 m l ∙ sym (get_or-append Vs r₂ 0 m l) ∙ ap (λ x. get_or x m 0) (sym h₂) ∙ get_or-drop i t m 0

  same_number : (m : ℕ) → m + 4 ≤ length Vs → number_from s (a + m) ≡ number_from t (i + m)
  unfolding number_from
  same_number m l =
      let at : (c k : ℕ) → c + m + k ≡ c + (m + k) = λ c k. omega arith in
      let b : (k : ℕ) → k < 4 → get_or s (a + m + k) 0 ≡ get_or t (i + m + k) 0 =
      λ k q. ap (λ (p : ℕ). get_or s p 0) (at a k) ∙ same_byte (m + k) (omega (arith, q)) ∙ ap (λ (p : ℕ). get_or t p 0) (sym (at i k)) in
      omega (arith, same_byte m (omega (arith, l)), b 1 (omega arith), b 2 (omega arith), b 3 (omega arith))

  pub same_double : (m : ℕ) → m + 8 ≤ length Vs → double_from s (a + m) ≡ double_from t (i + m)
  unfolding double_from
  same_double m l =
      let at : (c : ℕ) → c + m + 4 ≡ c + (m + 4) = λ c. omega arith in
      let low = same_number m (omega (arith, l)) in
      let high : number_from s (a + m + 4) ≡ number_from t (i + m + 4) = ap (number_from s) (at a) ∙ same_number (m + 4) (omega (arith, l)) ∙ ap (number_from t) (sym (at i)) in
      λ k. of_bits binary64 (low k + 4_294_967_296 * high k)

  pub same_doubles : (n : ℕ) → 8 * n ≤ length Vs → doubles_from t i n ≡ doubles_from s a n
  unfolding doubles_from
  same_doubles n l = list_of_same n (λ j. double_from s (a + 8 * j)) (λ j. double_from t (i + 8 * j)) (λ j q. sym (same_double (8 * j) (omega (arith, q, l))))

  pub same_row : (n : ℕ) → n ≤ length Vs → bytes_from t i n ≡ bytes_from s a n
  unfolding bytes_from
  same_row n l = list_of_same n (λ j. get_or s (a + j) 0) (λ j. get_or t (i + j) 0) (λ j q. sym (same_byte j (omega (arith, q, l))))

place_shift : (t : List ℕ) (k i : ℕ) → number_place t (place_behind (number_at Groups t i)) k ≡ number_place t i (suc k)
unfolding number_place
place_shift t zero i = refl
place_shift t (suc k) i = ap (λ (p : ℕ). place_behind (number_at Groups t p)) (place_shift t k i)

-- numbers: what was read is what was written
module _ (s t : List ℕ) (b : Bytes t) where
  pub record Read (q j : ℕ) (bs : List ℕ) : Type 0 where
    pub value : ℕ
    pub found : number_at Groups t q ≡ read_as value j
    pub bytes : bs ≡ number_bytes value
    pub small : value < 4_294_967_296

  pub number_was : (q j : ℕ) (bs : List ℕ) → number_moved Groups Plain t q ≡ put j bs → Read q j bs
  unfolding number_moved number_written number_of
  number_was q j bs e = go (number_at Groups t q) refl e
    where
      go : (x : Result (ℕ × ℕ) NumberRefusal) → number_at Groups t q ≡ x → number_written Plain x ≡ put j bs → Read q j bs
      go (Err why) ex h = no_part (sym h)
      go (Ok (n, next)) ex h =
          let ej : next ≡ j = cc h in
          let eb : number_bytes n ≡ bs = cc h in
          record { value = n; found = ex ∙ ap (read_as n) ej; bytes = sym eb; small = (number_stood t b Groups q n next ex).1 }

  pub numbers_were : (m q j : ℕ) (bs : List ℕ) (a : ℕ) (rest : List ℕ) → numbers_moved Groups Plain t m q ≡ put j bs → drop a s ≡ bs ++ rest
      → ((k : ℕ) → k < m → number_from s (a + 4 * k) ≡ value_read (number_at Groups t (number_place t q k))) × (length bs ≡ 4 * m)
  unfolding numbers_moved number_place
  numbers_were zero q j bs a rest e h = let none : [] ≡ bs = cc e in (λ k l. absurd (omega (arith, l)), ap length (sym none))
  numbers_were (suc m) q j bs a rest e h =
      let p = split (number_moved Groups Plain t q) (numbers_moved Groups Plain t m) j bs e in
      let r = number_was q p.middle p.first p.one in
      let d : drop a s ≡ number_bytes r.value ++ (p.rest ++ rest) = h ∙ ap (λ l. l ++ rest) (sym p.all) ∙ append_assoc p.first p.rest rest ∙ ap (λ l. l ++ (p.rest ++ rest)) r.bytes in
      let first : number_from s a ≡ r.value = number_here s a r.value (p.rest ++ rest) r.small d in
      let more = numbers_were m p.middle j p.rest (a + 4) rest p.two (past s a (number_bytes r.value) (p.rest ++ rest) 4 (length_number r.value) d) in
      let next : place_behind (number_at Groups t q) ≡ p.middle = ap place_behind r.found in (
        λ k l. each r.value p.middle first r.found next more.0 k l,
        ap length (sym p.all) ∙ length-append p.first p.rest ∙ omega (arith, more.1, ap length r.bytes, length_number r.value),
      )
    where
      each : (x middle : ℕ) → number_from s a ≡ x → number_at Groups t q ≡ read_as x middle → place_behind (number_at Groups t q) ≡ middle
          → ((k : ℕ) → k < m → number_from s (a + 4 + 4 * k) ≡ value_read (number_at Groups t (number_place t middle k)))
          → (k : ℕ) → k < suc m → number_from s (a + 4 * k) ≡ value_read (number_at Groups t (number_place t q k))
      each x middle first found next more zero l = ap (number_from s) (add-zero a) ∙ first ∙ sym (ap value_read found)
      each x middle first found next more (suc k) l =
          let place : a + 4 * suc k ≡ a + 4 + 4 * k = omega arith in
          ap (number_from s) place ∙ more k (omega (arith, l)) ∙ ap (λ (p : ℕ). value_read (number_at Groups t p)) (ap (λ (p : ℕ). number_place t p k) (sym next) ∙ place_shift t k q)

  pub numbers_same : (m q j : ℕ) (bs : List ℕ) (a : ℕ) (rest : List ℕ) → numbers_moved Groups Plain t m q ≡ put j bs → drop a s ≡ bs ++ rest → numbers_in t q m ≡ numbers_from s a m
  unfolding numbers_in numbers_from
  numbers_same m q j bs a rest e h =
      let w = numbers_were m q j bs a rest e h in list_of_same m (λ k. number_from s (a + 4 * k)) (λ k. value_read (number_at Groups t (number_place t q k))) (λ k l. sym (w.0 k l))

size_is : (kind : ℕ) → piece_size kind ≡ 5 + ends_size kind
unfolding piece_size ends_size
size_is kind = go (eqb kind 0)
  where
    go : (b : Bool) → cond b 29 53 ≡ 5 + cond b 24 48
    go true = refl
    go false = refl

-- a piece at byte q of t that is moved to byte a of s
module _ (s t : List ℕ) (b : Bytes t) where
  pub record PieceSame (q j a : ℕ) (rest : List ℕ) : Type 0 where
    pub kind : get_or s a 0 ≡ get_or t q 0
    pub face : number_from s (a + 1) ≡ value_read (number_at Groups t (q + 1))
    pub ends : (m : ℕ) → m + 8 ≤ ends_size (get_or t q 0) → double_from s (a + 5 + m) ≡ double_from t (ends_from t q + m)
    pub behind : drop (a + piece_size (get_or s a 0)) s ≡ rest
    pub next : ends_from t q + ends_size (get_or t q 0) ≡ j

  of_kind_same : (q j : ℕ) (bs : List ℕ) (a : ℕ) (rest : List ℕ) → piece_of_kind Groups Plain t (get_or t q 0) q ≡ put j bs → drop a s ≡ bs ++ rest → PieceSame q j a rest
  unfolding piece_of_kind ends_from
  of_kind_same q j bs a rest e h =
      let size = ends_size (get_or t q 0) in
      let p = split (bytes_moved t 1 q) (λ k. then (number_moved Groups Plain t k) (bytes_moved t size)) j bs e in
      let st = bytes_stand t 1 q p.middle p.first p.one in
      let u = split (number_moved Groups Plain t p.middle) (bytes_moved t size) j p.rest p.two in
      let r = number_was s t b p.middle u.middle u.first u.one in
      let sv = bytes_stand t size u.middle j u.rest u.two in
      let d0 : drop a s ≡ p.first ++ (u.first ++ (u.rest ++ rest)) =
      h ∙ ap (λ l. l ++ rest) (sym p.all) ∙ append_assoc p.first p.rest rest ∙ ap (λ l. p.first ++ (l ++ rest)) (sym u.all) ∙ ap (λ l. p.first ++ l) (append_assoc u.first u.rest rest) in
      let kind0 = same_byte s t a q p.first (u.first ++ (u.rest ++ rest)) (drop p.middle t) d0 st.0 0 (omega (arith, st.1.0)) in
      let kind : get_or s a 0 ≡ get_or t q 0 = ap (λ (k : ℕ). get_or s k 0) (sym (add-zero a)) ∙ kind0 ∙ ap (λ (k : ℕ). get_or t k 0) (add-zero q) in
      let d1 = past s a p.first (u.first ++ (u.rest ++ rest)) 1 st.1.0 d0 in
      let d2 : drop (a + 1) s ≡ number_bytes r.value ++ (u.rest ++ rest) = d1 ∙ ap (λ l. l ++ (u.rest ++ rest)) r.bytes in
      let here : number_at Groups t (q + 1) ≡ read_as r.value u.middle = ap (number_at Groups t) st.1.1 ∙ r.found in
      let five : a + 1 + 4 ≡ a + 5 = omega arith in
      let d3 : drop (a + 5) s ≡ u.rest ++ rest = rw five at (past s (a + 1) (number_bytes r.value) (u.rest ++ rest) 4 (length_number r.value) d2) in
      let all : a + 5 + size ≡ a + piece_size (get_or s a 0) = rw (kind, size_is) (omega arith) in
      record {
        kind = kind;
        face = number_here s (a + 1) r.value (u.rest ++ rest) r.small d2 ∙ sym (ap value_read here);
        ends = λ m l. rw here (same_double s t (a + 5) u.middle u.rest rest (drop j t) d3 sv.0 m (omega (arith, l, sv.1.0)));
        behind = rw all at (past s (a + 5) u.rest rest size sv.1.0 d3);
        next = rw here sv.1.1;
      }

  piece_same : (q j : ℕ) (bs : List ℕ) (a : ℕ) (rest : List ℕ) → piece_moved Groups Plain t q ≡ put j bs → drop a s ≡ bs ++ rest → PieceSame q j a rest
  unfolding piece_moved
  piece_same q j bs a rest e h = go (ltb (length t) (q + 1)) (ltb 1 (get_or t q 0)) e
    where
      go : (c d : Bool) → cond c (stop TooShort) (cond d (stop UnknownKind) (piece_of_kind Groups Plain t (get_or t q 0) q)) ≡ put j bs → PieceSame q j a rest
      go true d x = no_part (sym x)
      go false true x = no_part (sym x)
      go false false x = of_kind_same q j bs a rest x h

  coords_same : (q j a : ℕ) (rest : List ℕ) → PieceSame q j a rest → ends_in t q ≡ piece_coords s a
  unfolding ends_in piece_coords second_in second_double_at
  coords_same q j a rest w = go (eqb (get_or t q 0) 0) refl
    where
      at : (k m : ℕ) → a + k ≡ a + 5 + m → m + 8 ≤ ends_size (get_or t q 0) → double_from t (ends_from t q + m) ≡ double_from s (a + k)
      at k m e l = sym (w.ends m l) ∙ ap (double_from s) (sym e)

      large : 24 ≤ ends_size (get_or t q 0)
      large = (ends_bounds (get_or t q 0)).0

      first : double_from t (ends_from t q) ≡ double_from s (a + 5)
      first = ap (double_from t) (sym (add-zero (ends_from t q))) ∙ at 5 0 (omega arith) (omega (arith, large))

      go : (c : Bool) → eqb (get_or t q 0) 0 ≡ c
          → double_from t (ends_from t q) ∷ double_from t (ends_from t q + 8) ∷ double_from t (ends_from t q + 16) ∷ cond (eqb (get_or t q 0) 0) zero64 (double_from t (ends_from t q + 24)) ∷ cond (eqb (get_or t q 0) 0) zero64 (double_from t (ends_from t q + 32)) ∷ cond (eqb (get_or t q 0) 0) zero64 (double_from t (ends_from t q + 40)) ∷ []
          ≡ double_from s (a + 5) ∷ double_from s (a + 13) ∷ double_from s (a + 21) ∷ cond (eqb (get_or s a 0) 0) zero64 (double_from s (a + 29)) ∷ cond (eqb (get_or s a 0) 0) zero64 (double_from s (a + 37)) ∷ cond (eqb (get_or s a 0) 0) zero64 (double_from s (a + 45)) ∷ []
      go true ec = rw (w.kind, ec) (λ i. first i ∷ at 13 8 (omega arith) (omega (arith, large)) i ∷ at 21 16 (omega arith) (omega (arith, large)) i ∷ zero64 ∷ zero64 ∷ zero64 ∷ [])
      go false ec =
          let size : ends_size (get_or t q 0) ≡ 48 = unfold ends_size in rw ec in
          rw (w.kind, ec)
          (λ i. first i ∷ at 13 8 (omega arith) (omega (arith, large)) i ∷ at 21 16 (omega arith) (omega (arith, large)) i ∷ at 29 24 (omega arith) (omega (arith, size)) i ∷ at 37 32 (omega arith) (omega (arith, size)) i ∷ at 45 40 (omega arith) (omega (arith, size)) i ∷ [])

  -- after k pieces both walks go on together
  module _ (p q j : ℕ) (bs rest : List ℕ) (e : pieces_moved Groups Plain t p q ≡ put j bs) (h : drop (pieces_from s) s ≡ bs ++ rest) where
    pub record Both (k : ℕ) : Type 0 where
      pub bytes : List ℕ
      pub walk : pieces_moved Groups Plain t (p - k) (piece_place t q k) ≡ put j bytes
      pub stand : drop (piece_from s k) s ≡ bytes ++ rest

    pub next_piece : (k : ℕ) → k < p → (w : Both k) → Split (piece_moved Groups Plain t (piece_place t q k)) (pieces_moved Groups Plain t (p - k - 1)) j w.bytes
    next_piece k l w = split _ _ j w.bytes (sym (pieces_next Groups Plain t (piece_place t q k) (p - k) (omega (arith, l))) ∙ w.walk)

    here : (k : ℕ) (l : k < p) (w : Both k) → PieceSame (piece_place t q k) (next_piece k l w).middle (piece_from s k) ((next_piece k l w).rest ++ rest)
    here k l w =
        let p' = next_piece k l w in
        piece_same (piece_place t q k) p'.middle p'.first (piece_from s k) (p'.rest ++ rest) p'.one (w.stand ∙ ap (λ x. x ++ rest) (sym p'.all) ∙ append_assoc p'.first p'.rest rest)

    pub both : (k : ℕ) → k ≤ p → Both k
    unfolding piece_place piece_from
    both zero l = let all : p - 0 ≡ p = omega arith in record { bytes = bs; walk = rw all e; stand = h }
    both (suc k) l =
        let w = both k (omega (arith, l)) in
        let p' = next_piece k (omega (arith, l)) w in
        let f = here k (omega (arith, l)) w in
        let less : p - suc k ≡ p - k - 1 = omega arith in
        record { bytes = p'.rest; walk = rw (less, f.next) p'.two; stand = f.behind }

    pub piece_is : (k : ℕ) (l : k < p) → PieceSame (piece_place t q k) (next_piece k l (both k (omega (arith, l)))).middle (piece_from s k) ((next_piece k l (both k (omega (arith, l)))).rest ++ rest)
    piece_is k l = here k l (both k (omega (arith, l)))

    pub kinds_same : kinds_from t q p ≡ kinds_in s p
    unfolding kinds_from kinds_in
    kinds_same = list_of_same p (λ k. get_or s (piece_from s k) 0) (λ k. get_or t (piece_place t q k) 0) (λ k l. sym (piece_is k l).kind)

    pub faces_same : faces_from t q p ≡ faces_in s p
    unfolding faces_from faces_in
    faces_same = list_of_same p (λ k. number_from s (piece_from s k + 1)) (λ k. value_read (number_at Groups t (piece_place t q k + 1))) (λ k l. sym (piece_is k l).face)

    coords_first : (n : ℕ) → n ≤ p → coords_from t q n ≡ coords_in s n
    unfolding coords_from coords_in
    coords_first zero l = refl
    coords_first (suc n) l = λ i. coords_first n (omega (arith, l)) i ++ coords_same _ _ _ _ (piece_is n (omega (arith, l))) i

    pub all_coords_same : coords_from t q p ≡ coords_in s p
    all_coords_same = coords_first p (omega arith)

    -- the limit is the last eight bytes of both
    pub limit_same : (L more : List ℕ) → rest ≡ L ++ more → (k : ℕ) → bytes_moved t 8 j ≡ put k L → length t ≤ k → double_from t (length t - 8) ≡ double_from s (piece_from s p)
    limit_same L more er k x l =
        let w = both p (omega arith) in
        let done : put (piece_place t q p) [] ≡ put j w.bytes = sym (no_pieces Groups Plain t (piece_place t q p) (p - p) (omega arith)) ∙ w.walk in
        let none : [] ≡ w.bytes = cc done in
        let d : drop (piece_from s p) s ≡ L ++ more = w.stand ∙ ap (λ y. y ++ rest) (sym none) ∙ er in
        let st = bytes_stand t 8 j k L x in
        let place : length t - 8 ≡ j + 0 = omega (arith, st.1.1, l, (bytes_put t 8 j k L x).0) in
        ap (double_from t) place ∙ sym (same_double s t (piece_from s p) j L more (drop k t) d st.0 0 (omega (arith, st.1.0))) ∙ ap (double_from s) (add-zero (piece_from s p))

pub also_split : (hs : List ℕ) (x : Part) (j : ℕ) (bs : List ℕ) → also hs x ≡ put j bs → (rest : List ℕ) × ((x ≡ put j rest) × (hs ++ rest ≡ bs))
unfolding also
also_split hs (put k cs) j bs e = let ek : k ≡ j = cc e in (cs, (ap (λ (i : ℕ). put i cs) ek, cc e))
also_split hs (stop w) j bs e = no_part (sym e)

pub at_its_end : (t : List ℕ) (i j : ℕ) (bs : List ℕ) → ended t i ≡ put j bs → (length t ≤ i) × ((i ≡ j) × ([] ≡ bs))
unfolding ended
at_its_end t i j bs e = go (ltb i (length t)) refl e
  where
    go : (c : Bool) → ltb i (length t) ≡ c → cond c (stop LeftOver) (put i []) ≡ put j bs → (length t ≤ i) × ((i ≡ j) × ([] ≡ bs))
    go true ec h = no_part (sym h)
    go false ec h = (ltb-false i (length t) ec, (cc h, cc h))

regroup : (a b c d e f : List ℕ) → (a ++ (b ++ c)) ++ (d ++ e) ++ f ≡ a ++ (b ++ (c ++ (d ++ (e ++ f))))
regroup a b c d e f = simp append_assoc

three : (a b c d : List ℕ) → a ++ b ++ c ++ d ≡ a ++ (b ++ (c ++ d))
three a b c d = simp append_assoc

told : (s t : List ℕ) (v n p i : ℕ) → number_from s 0 ≡ v → number_from s 4 ≡ n → number_from s 8 ≡ p → doubles_from t i (3 * v) ≡ doubles_from s 12 (3 * v)
    → numbers_in t (i + 24 * v) (3 * n) ≡ numbers_from s (12 + 24 * v) (3 * n) → bytes_from t (flags_place t v n i) v ≡ bytes_from s (12 + 24 * v + 12 * n) v → kinds_from t (first_piece t v n i) p ≡ kinds_in s p
    → faces_from t (first_piece t v n i) p ≡ faces_in s p → coords_from t (first_piece t v n i) p ≡ coords_in s p → double_from t (length t - 8) ≡ double_from s (piece_from s p) → job_at t v n p i ≡ job_in s
unfolding job_at job_in
told s t v n p i cv cn cp ev en ef ek ec eo el =
    (λ k. record { vertices = ev k; triangles = en k; flags = ef k; kinds = ek k; faces = ec k; coords = eo k; limit = el k })
    ∙ (λ k. record {
      vertices = doubles_from s 12 (3 * (sym cv k));
      triangles = numbers_from s (12 + 24 * (sym cv k)) (3 * (sym cn k));
      flags = bytes_from s (12 + 24 * (sym cv k) + 12 * (sym cn k)) (sym cv k);
      kinds = kinds_in s (sym cp k);
      faces = faces_in s (sym cp k);
      coords = coords_in s (sym cp k);
      limit = double_from s (piece_from s (sym cp k));
    })

-- the theorem: a slip in groups and the plain slip that it is moved to hold the same job
module _ (t : List ℕ) (b : Bytes t) {v n p i : ℕ} (head : form_head_at Groups t ≡ counted v n p i) (j : ℕ) (s : List ℕ) (moved : slip_moved Groups Plain t ≡ put j s) where
  pub same_job : job_at t v n p i ≡ job_in s
  unfolding head_bytes first_byte number_of body_moved mesh_moved rest_moved flags_place
  same_job =
      let small = (head_stood t b Groups head).1 in
      let whole = also_split (head_bytes Plain v n p) (then (body_moved Groups Plain t v n p i) (ended t)) j s (sym (counted_head Groups Plain t head) ∙ moved) in
      let last = split (body_moved Groups Plain t v n p i) (ended t) j whole.0 whole.1.0 in
      let end = at_its_end t last.middle j last.rest last.two in
      let body = split (mesh_moved Groups Plain t v n i) (rest_moved Groups Plain t p) last.middle last.first last.one in
      let mesh = split (bytes_moved t (24 * v) i) (λ k. then (numbers_moved Groups Plain t (3 * n) k) (bytes_moved t v)) body.middle body.first body.one in
      let more = split (numbers_moved Groups Plain t (3 * n) mesh.middle) (bytes_moved t v) body.middle mesh.rest mesh.two in
      let rest = split (pieces_moved Groups Plain t p body.middle) (bytes_moved t 8) last.middle body.rest body.two in
      let Vs = mesh.first in
      let T = more.first in
      let F = more.rest in
      let P = rest.first in
      let L = rest.rest in
      let tail = L ++ last.rest in
      let jv = mesh.middle in
      let jt = more.middle in
      let jm = body.middle in
      let jp = rest.middle in
      let e2 : body.first ≡ Vs ++ (T ++ F) = sym mesh.all ∙ ap (λ l. Vs ++ l) (sym more.all) in
      let e3 : body.rest ≡ P ++ L = sym rest.all in
      let B : whole.0 ≡ Vs ++ (T ++ (F ++ (P ++ tail))) = sym last.all ∙ ap (λ l. l ++ last.rest) (sym body.all ∙ (λ k. e2 k ++ e3 k)) ∙ regroup Vs T F P L last.rest in
      let d0 : drop 0 s ≡ number_bytes v ++ (number_bytes n ++ (number_bytes p ++ whole.0)) = sym whole.1.1 ∙ three (number_bytes v) (number_bytes n) (number_bytes p) whole.0 in
      let d4 : drop 4 s ≡ number_bytes n ++ (number_bytes p ++ whole.0) = past s 0 (number_bytes v) (number_bytes n ++ (number_bytes p ++ whole.0)) 4 (length_number v) d0 in
      let d8 : drop 8 s ≡ number_bytes p ++ whole.0 = past s 4 (number_bytes n) (number_bytes p ++ whole.0) 4 (length_number n) d4 in
      let dV : drop 12 s ≡ Vs ++ (T ++ (F ++ (P ++ tail))) = past s 8 (number_bytes p) whole.0 4 (length_number p) d8 ∙ B in
      let cv : number_from s 0 ≡ v = number_here s 0 v (number_bytes n ++ (number_bytes p ++ whole.0)) small.vertices d0 in
      let cn : number_from s 4 ≡ n = number_here s 4 n (number_bytes p ++ whole.0) small.triangles d4 in
      let cp : number_from s 8 ≡ p = number_here s 8 p whole.0 small.pieces d8 in
      let sv = bytes_stand t (24 * v) i jv Vs mesh.one in
      let vertices = same_doubles s t 12 i Vs (T ++ (F ++ (P ++ tail))) (drop jv t) dV sv.0 (3 * v) (omega (arith, sv.1.0)) in
      let dT = past s 12 Vs (T ++ (F ++ (P ++ tail))) (24 * v) sv.1.0 dV in
      let triangles = ap (λ (k : ℕ). numbers_in t k (3 * n)) sv.1.1 ∙ numbers_same s t b (3 * n) jv jt T (12 + 24 * v) (F ++ (P ++ tail)) more.one dT in
      let long : length T ≡ 12 * n = omega (arith, (numbers_were s t b (3 * n) jv jt T (12 + 24 * v) (F ++ (P ++ tail)) more.one dT).1) in
      let dF = past s (12 + 24 * v) T (F ++ (P ++ tail)) (12 * n) long dT in
      let sf = bytes_stand t v jt jm F more.two in
      let place : number_place t (i + 24 * v) (3 * n) ≡ jt = ap (λ (k : ℕ). number_place t k (3 * n)) sv.1.1 ∙ numbers_put t (3 * n) jv jt T more.one in
      let flags = ap (λ (k : ℕ). bytes_from t k v) place ∙ same_row s t (12 + 24 * v + 12 * n) jt F (P ++ tail) (drop jm t) dF sf.0 v (omega (arith, sf.1.0)) in
      let dP = past s (12 + 24 * v + 12 * n) F (P ++ tail) v sf.1.0 dF in
      let first = mesh_put t v n i jm body.first body.one in
      let dQ : drop (pieces_from s) s ≡ P ++ tail = rw (cv, cn) dP in
      let kinds = ap (λ (k : ℕ). kinds_from t k p) first ∙ kinds_same s t b p jm jp P tail rest.one dQ in
      let faces = ap (λ (k : ℕ). faces_from t k p) first ∙ faces_same s t b p jm jp P tail rest.one dQ in
      let coords = ap (λ (k : ℕ). coords_from t k p) first ∙ all_coords_same s t b p jm jp P tail rest.one dQ in
      let limit = limit_same s t b p jm jp P tail rest.one dQ L last.rest refl last.middle rest.two end.0 in
      told s t v n p i cv cn cp vertices triangles flags kinds faces coords limit
