-- What a slip in groups is moved to has bytes alone: copies of its own, and those of numbers. Assumes nothing.
use Prim.Native.Nat.{ℕ, zero, suc, ◌+◌, ◌*◌}
use native.Mathlib.Omega.{arith}
use mathlib.Core.Path.{◌≡◌, refl, sym, subst, ◌∙◌}
use mathlib.Core.Bool.{Bool, true, false, cond}
use mathlib.Core.List.{List, [], ◌∷◌, ◌++◌}
use lib.Dec.{ltb}
use lib.ListN.{length, get_or, drop}
use lib.Seq.{get_or-drop}
use Rattle.nat_laws.specs.Lists.{All}
use Rattle.nat_laws.proofs.Lists.{all_append, all_left}
use Rattle.little_endian.specs.Bytes.{number_bytes}
use Rattle.groups.specs.declared.Form.TheVariants.{Plain, Groups}
use Rattle.groups.specs.Groups.{number_of}
use Rattle.slip_laws.specs.Plain.{IsByte}
use Rattle.slip_moves.specs.declared.Refusal.TheVariants.{TooShort, UnknownKind}
use Rattle.std.specs.Prelude.{Result, Ok, Err}
use Rattle.slip_moves.specs.declared.Refusal.{Refusal}
use Rattle.slip_moves.specs.declared.Counts.{Counts}
use Rattle.slip_moves.specs.Moves.{Part, put, stop, then, bytes_moved, ends_size, number_moved, numbers_moved, piece_of_kind, piece_moved, pieces_moved, form_head_at, first_byte, head_bytes, mesh_moved, rest_moved, body_moved, ended, slip_moved}
use Rattle.slip_moves.proofs.Parts.{no_part}
use Rattle.slip_moves.proofs.Whole.{refused_head, counted_head}
use Rattle.form_laws.proofs.Turns.{Bytes}
use Rattle.form_laws.proofs.Same.{split, also_split, at_its_end, bytes_stand, number_was}

each_byte : (l : List ℕ) → Bytes l → All IsByte l
each_byte [] b = tt
each_byte (x ∷ l) b = (b 0, each_byte l (λ i. b (suc i)))

number_bytes_lem : (n : ℕ) → All IsByte (number_bytes n)
unfolding number_bytes
number_bytes_lem n = (omega arith, (omega arith, (omega arith, (omega arith, tt))))

-- a part and what stands behind it
both_bytes : (x : Part) (k : ℕ → Part) (j : ℕ) (bs : List ℕ) → ((i : ℕ) (l : List ℕ) → x ≡ put i l → All IsByte l) → ((i : ℕ) (l : List ℕ) → k i ≡ put j l → All IsByte l)
    → then x k ≡ put j bs → All IsByte bs
both_bytes x k j bs one two e =
    let p = split x k j bs e in
    subst (All IsByte) p.all (all_append IsByte p.first p.rest (one p.middle p.first p.one) (two p.middle p.rest p.two))

module _ (t : List ℕ) (b : Bytes t) where
  copied : (n i j : ℕ) (bs : List ℕ) → bytes_moved t n i ≡ put j bs → All IsByte bs
  copied n i j bs e =
      let there : All IsByte (drop i t) = each_byte (drop i t) (λ k. subst IsByte (sym (get_or-drop i t k 0)) (b (i + k))) in
      all_left IsByte bs (drop j t) (subst (All IsByte) (bytes_stand t n i j bs e).0 there)

  of_number : (i j : ℕ) (bs : List ℕ) → number_moved Groups Plain t i ≡ put j bs → All IsByte bs
  of_number i j bs e = let r = number_was t t b i j bs e in subst (All IsByte) (sym r.bytes) (number_bytes_lem r.value)

  of_numbers : (n i j : ℕ) (bs : List ℕ) → numbers_moved Groups Plain t n i ≡ put j bs → All IsByte bs
  unfolding numbers_moved
  of_numbers zero i j bs e = let none : [] ≡ bs = cc e in subst (All IsByte) none tt
  of_numbers (suc n) i j bs e = both_bytes (number_moved Groups Plain t i) (numbers_moved Groups Plain t n) j bs (of_number i) (λ k. of_numbers n k j) e

  of_piece : (i j : ℕ) (bs : List ℕ) → piece_moved Groups Plain t i ≡ put j bs → All IsByte bs
  unfolding piece_moved piece_of_kind
  of_piece i j bs e = go (ltb (length t) (i + 1)) (ltb 1 (get_or t i 0)) e
    where
      go : (c d : Bool) → cond c (stop TooShort) (cond d (stop UnknownKind) (piece_of_kind Groups Plain t (get_or t i 0) i)) ≡ put j bs → All IsByte bs
      go true d h = no_part (sym h)
      go false true h = no_part (sym h)
      go false false h =
          let ends = ends_size (get_or t i 0) in
          both_bytes (bytes_moved t 1 i) (λ k. then (number_moved Groups Plain t k) (bytes_moved t ends)) j bs (copied 1 i)
          (λ k l. both_bytes (number_moved Groups Plain t k) (bytes_moved t ends) j l (of_number k) (λ m. copied ends m j)) h

  of_pieces : (n i j : ℕ) (bs : List ℕ) → pieces_moved Groups Plain t n i ≡ put j bs → All IsByte bs
  unfolding pieces_moved
  of_pieces zero i j bs e = let none : [] ≡ bs = cc e in subst (All IsByte) none tt
  of_pieces (suc n) i j bs e = both_bytes (piece_moved Groups Plain t i) (pieces_moved Groups Plain t n) j bs (of_piece i) (λ k. of_pieces n k j) e

  of_body : (v n p i j : ℕ) (bs : List ℕ) → body_moved Groups Plain t v n p i ≡ put j bs → All IsByte bs
  unfolding body_moved mesh_moved rest_moved
  of_body v n p i j bs e =
      both_bytes (mesh_moved Groups Plain t v n i) (rest_moved Groups Plain t p) j bs
      (λ k l. both_bytes (bytes_moved t (24 * v) i) (λ m. then (numbers_moved Groups Plain t (3 * n) m) (bytes_moved t v)) k l (copied (24 * v) i)
      (λ m r. both_bytes (numbers_moved Groups Plain t (3 * n) m) (bytes_moved t v) k r (of_numbers (3 * n) m) (λ q. copied v q k)))
      (λ k l. both_bytes (pieces_moved Groups Plain t p k) (bytes_moved t 8) j l (of_pieces p k) (λ m. copied 8 m j)) e

  of_head : (v n p : ℕ) → All IsByte (head_bytes Plain v n p)
  unfolding head_bytes first_byte number_of
  of_head v n p =
      all_append IsByte (number_bytes v ++ number_bytes n) (number_bytes p) (all_append IsByte (number_bytes v) (number_bytes n) (number_bytes_lem v) (number_bytes_lem n)) (number_bytes_lem p)

  pub moved_bytes : (j : ℕ) (s : List ℕ) → slip_moved Groups Plain t ≡ put j s → All IsByte s
  moved_bytes j s e = go (form_head_at Groups t) refl
    where
      go : (h : Result Counts Refusal) → form_head_at Groups t ≡ h → All IsByte s
      go (Err r) eh = no_part (sym e ∙ refused_head Groups Plain t eh)
      go (Ok c) eh =
          let whole = also_split (head_bytes Plain c.vertices c.triangles c.pieces) (then (body_moved Groups Plain t c.vertices c.triangles c.pieces c.next) (ended t)) j s (sym (counted_head Groups Plain t eh) ∙ e) in
          let behind = both_bytes (body_moved Groups Plain t c.vertices c.triangles c.pieces c.next) (ended t) j whole.0 (of_body c.vertices c.triangles c.pieces c.next) (λ k l q. subst (All IsByte) (at_its_end t k j l q).1.1 tt) whole.1.0 in
          subst (All IsByte) whole.1.1 (all_append IsByte (head_bytes Plain c.vertices c.triangles c.pieces) whole.0 (of_head c.vertices c.triangles c.pieces) behind)
