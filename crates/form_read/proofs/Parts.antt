-- Where the parts of a slip in groups stand that is walked over to its end. Assumes nothing.
use Prim.Native.Nat.{ℕ, zero, suc, ◌+◌, ◌-◌, ◌*◌, ◌≤◌, ◌<◌}
use native.Mathlib.Omega.{arith}
use mathlib.Core.Path.{◌≡◌, refl, sym, ap, ◌∙◌}
use mathlib.Core.Bool.{Bool, true, false, cond, true≢false}
use mathlib.Core.List.{List, ◌++◌}
use borrow.Author.Tests.{ltb-false}
use lib.Dec.{eqb, ltb}
use lib.ListN.{length, get_or, take, drop}
use Rattle.groups.specs.declared.Form.TheVariants.{Plain, Groups}
use Rattle.std.specs.Prelude.{Result, Ok, Err}
use Rattle.groups.specs.declared.NumberRefusal.{NumberRefusal}
use Rattle.groups.specs.Groups.{number_at, Found}
use Rattle.slip_moves.specs.declared.Refusal.TheVariants.{TooShort, UnknownKind}
use Rattle.slip_moves.specs.Moves.{Part, put, stop, also, then, bytes_moved, number_written, ends_size, number_moved, numbers_moved, piece_of_kind, piece_moved, pieces_moved, mesh_moved}
use Rattle.slip_moves.proofs.Parts.{no_part}
use Rattle.form_read.specs.Places.{value_read, place_behind, is_put, number_place, ends_from, flags_place, first_piece}
use Rattle.form_read.specs.There.{PieceThere}

pub also_put : (bs : List ℕ) (x : Part) → is_put (also bs x) ≡ true → is_put x ≡ true
unfolding also
also_put bs (put j more) h = refl
also_put bs (stop w) h = absurd (true≢false (sym h))

pub put_of : (x : Part) → is_put x ≡ true → (j : ℕ) × (bs : List ℕ) × (x ≡ put j bs)
put_of (put j bs) h = (j, bs, refl)
put_of (stop w) h = absurd (true≢false (sym h))

pub is_put_lem : {j : ℕ} {bs : List ℕ} (x : Part) → x ≡ put j bs → is_put x ≡ true
is_put_lem x e = ap is_put e

-- a part that is put, and what stands behind it
pub then_put : (x : Part) (k : ℕ → Part) → is_put (then x k) ≡ true → (j : ℕ) × (bs : List ℕ) × ((x ≡ put j bs) × (is_put (k j) ≡ true))
unfolding then
then_put (put j bs) k h = (j, bs, (refl, also_put bs (k j) h))
then_put (stop w) k h = absurd (true≢false (sym h))

pub then_is : {j₁ j₂ : ℕ} {b₁ b₂ : List ℕ} (x : Part) (k : ℕ → Part) → x ≡ put j₁ b₁ → k j₁ ≡ put j₂ b₂ → then x k ≡ put j₂ (b₁ ++ b₂)
unfolding then also
then_is {j₁} {j₂} {b₁} x k e₁ e₂ = ap (λ y. then y k) e₁ ∙ ap (also b₁) e₂

module _ (s : List ℕ) where
  pub bytes_put : (n i j : ℕ) (bs : List ℕ) → bytes_moved s n i ≡ put j bs → (i + n ≤ length s) × (i + n ≡ j)
  unfolding bytes_moved
  bytes_put n i j bs e = go (ltb (length s) (i + n)) refl e
    where
      go : (b : Bool) → ltb (length s) (i + n) ≡ b → cond b (stop TooShort) (put (i + n) (take n (drop i s))) ≡ put j bs → (i + n ≤ length s) × (i + n ≡ j)
      go true eb h = no_part (sym h)
      go false eb h = (ltb-false (length s) (i + n) eb, cc h)

  pub bytes_fit : (n i : ℕ) → is_put (bytes_moved s n i) ≡ true → i + n ≤ length s
  bytes_fit n i h = let p = put_of (bytes_moved s n i) h in (bytes_put n i p.0 p.1 p.2).0

  number_put : (i j : ℕ) (bs : List ℕ) → number_moved Groups Plain s i ≡ put j bs → place_behind (number_at Groups s i) ≡ j
  unfolding number_moved number_written
  number_put i j bs e = go (number_at Groups s i) e
    where
      go : (x : Result (ℕ × ℕ) NumberRefusal) → number_written Plain x ≡ put j bs → place_behind x ≡ j
      go (Err why) h = no_part (sym h)
      go (Ok (n, next)) h = cc h

  place_shift : (k i : ℕ) → number_place s (place_behind (number_at Groups s i)) k ≡ number_place s i (suc k)
  unfolding number_place
  place_shift zero i = refl
  place_shift (suc k) i = ap (λ (p : ℕ). place_behind (number_at Groups s p)) (place_shift k i)

  -- n numbers, from byte i to byte j
  pub numbers_put : (n i j : ℕ) (bs : List ℕ) → numbers_moved Groups Plain s n i ≡ put j bs → number_place s i n ≡ j
  unfolding numbers_moved number_place
  numbers_put zero i j bs e = cc e
  numbers_put (suc n) i j bs e =
      let a = then_put (number_moved Groups Plain s i) (numbers_moved Groups Plain s n) (is_put_lem (numbers_moved Groups Plain s (suc n) i) e) in
      let next = number_put i a.0 a.1 a.2.0 in
      let q = put_of (numbers_moved Groups Plain s n a.0) a.2.1 in
      let rest = numbers_put n a.0 q.0 q.1 q.2 in
      let all : put q.0 (a.1 ++ q.1) ≡ put j bs = sym (then_is (number_moved Groups Plain s i) (numbers_moved Groups Plain s n) a.2.0 q.2) ∙ e in
      let same : q.0 ≡ j = cc all in
      sym (place_shift n i) ∙ ap (λ (p : ℕ). number_place s p n) next ∙ rest ∙ same

  -- the vertices and the flags stand in the slip, and the first piece behind them
  module _ (v t i : ℕ) where
    behind : ℕ → Part
    behind j = then (numbers_moved Groups Plain s (3 * t) j) (bytes_moved s v)

    pub mesh_there : is_put (mesh_moved Groups Plain s v t i) ≡ true → (i + 24 * v ≤ length s) × (flags_place s v t i + v ≤ length s)
    unfolding mesh_moved flags_place behind
    mesh_there h =
        let a = then_put (bytes_moved s (24 * v) i) behind h in
        let p = bytes_put (24 * v) i a.0 a.1 a.2.0 in
        let b = then_put (numbers_moved Groups Plain s (3 * t) a.0) (bytes_moved s v) a.2.1 in
        let there : number_place s (i + 24 * v) (3 * t) ≡ b.0 = ap (λ (k : ℕ). number_place s k (3 * t)) p.1 ∙ numbers_put (3 * t) a.0 b.0 b.1 b.2.0 in
        (p.0, omega (arith, bytes_fit v b.0 b.2.1, there))

    pub mesh_put : (j : ℕ) (bs : List ℕ) → mesh_moved Groups Plain s v t i ≡ put j bs → first_piece s v t i ≡ j
    unfolding mesh_moved flags_place first_piece behind
    mesh_put j bs e =
        let a = then_put (bytes_moved s (24 * v) i) behind (is_put_lem (mesh_moved Groups Plain s v t i) e) in
        let p = bytes_put (24 * v) i a.0 a.1 a.2.0 in
        let b = then_put (numbers_moved Groups Plain s (3 * t) a.0) (bytes_moved s v) a.2.1 in
        let there : number_place s (i + 24 * v) (3 * t) ≡ b.0 = ap (λ (k : ℕ). number_place s k (3 * t)) p.1 ∙ numbers_put (3 * t) a.0 b.0 b.1 b.2.0 in
        let c = put_of (bytes_moved s v b.0) b.2.1 in
        let f = bytes_put v b.0 c.0 c.1 c.2 in
        let two = then_is (numbers_moved Groups Plain s (3 * t) a.0) (bytes_moved s v) b.2.0 c.2 in
        let all : put c.0 (a.1 ++ (b.1 ++ c.1)) ≡ put j bs = sym (then_is (bytes_moved s (24 * v) i) behind a.2.0 two) ∙ e in
        let same : c.0 ≡ j = cc all in
        omega (arith, there, f.1, same)

  module _ (i j : ℕ) (bs : List ℕ) where
    face_and_ends : ℕ → Part
    face_and_ends k = then (number_moved Groups Plain s k) (bytes_moved s (ends_size (get_or s i 0)))

    of_kind : i < length s → piece_of_kind Groups Plain s (get_or s i 0) i ≡ put j bs → PieceThere s i (ends_from s i) × (ends_from s i + ends_size (get_or s i 0) ≡ j)
    unfolding piece_of_kind ends_from face_and_ends
    of_kind l h =
        let size = ends_size (get_or s i 0) in
        let a = then_put (bytes_moved s 1 i) face_and_ends (is_put_lem (piece_of_kind Groups Plain s (get_or s i 0) i) h) in
        let p = bytes_put 1 i a.0 a.1 a.2.0 in
        let b = then_put (number_moved Groups Plain s a.0) (bytes_moved s size) a.2.1 in
        let ends : place_behind (number_at Groups s (i + 1)) ≡ b.0 = ap (λ (k : ℕ). place_behind (number_at Groups s k)) p.1 ∙ number_put a.0 b.0 b.1 b.2.0 in
        let c = put_of (bytes_moved s size b.0) b.2.1 in
        let f = bytes_put size b.0 c.0 c.1 c.2 in
        let two = then_is (number_moved Groups Plain s a.0) (bytes_moved s size) b.2.0 c.2 in
        let all : put c.0 (a.1 ++ (b.1 ++ c.1)) ≡ put j bs = sym (then_is (bytes_moved s 1 i) face_and_ends a.2.0 two) ∙ h in
        let same : c.0 ≡ j = cc all in
        (record { kind = l; ends = refl; fits = omega (arith, ends, f.0) }, omega (arith, ends, f.1, same))

    pub piece_put : piece_moved Groups Plain s i ≡ put j bs → PieceThere s i (ends_from s i) × (ends_from s i + ends_size (get_or s i 0) ≡ j)
    unfolding piece_moved
    piece_put e = go (ltb (length s) (i + 1)) (ltb 1 (get_or s i 0)) refl e
      where
        go : (c d : Bool) → ltb (length s) (i + 1) ≡ c → cond c (stop TooShort) (cond d (stop UnknownKind) (piece_of_kind Groups Plain s (get_or s i 0) i)) ≡ put j bs
            → PieceThere s i (ends_from s i) × (ends_from s i + ends_size (get_or s i 0) ≡ j)
        go true d ec h = no_part (sym h)
        go false true ec h = no_part (sym h)
        go false false ec h = of_kind (omega (arith, ltb-false (length s) (i + 1) ec)) h

  -- a piece stands whole, and so do those behind it
  pub piece_there : (n i : ℕ) → 0 < n → is_put (pieces_moved Groups Plain s n i) ≡ true
      → PieceThere s i (ends_from s i) × (is_put (pieces_moved Groups Plain s (n - 1) (ends_from s i + ends_size (get_or s i 0))) ≡ true)
  unfolding pieces_moved
  piece_there zero i h p = absurd (omega arith)
  piece_there (suc n) i h p =
      let less : suc n - 1 ≡ n = omega arith in
      let a = then_put (piece_moved Groups Plain s i) (pieces_moved Groups Plain s n) p in
      let b = piece_put i a.0 a.1 a.2.0 in
      (b.0, rw (less, b.1) a.2.1)

-- how large a number that is read is, and how near the place behind it
pub value_small : {s : List ℕ} {i : ℕ} (x : Result (ℕ × ℕ) NumberRefusal) → Found Groups s i x → value_read x < 4_294_967_296
value_small (Err why) f = omega arith
value_small (Ok (n, next)) f = (f.small n next refl).0

pub next_near : {s : List ℕ} {i : ℕ} (x : Result (ℕ × ℕ) NumberRefusal) → Found Groups s i x → place_behind x ≤ i + 5
next_near (Err why) f = omega arith
next_near (Ok (n, next)) f = (f.small n next refl).1

pub ends_bounds : (kind : ℕ) → (24 ≤ ends_size kind) × (ends_size kind ≤ 48)
unfolding ends_size
ends_bounds kind = go (eqb kind 0)
  where
    go : (b : Bool) → (24 ≤ cond b 24 48) × (cond b 24 48 ≤ 48)
    go true = (omega arith, omega arith)
    go false = (omega arith, omega arith)
