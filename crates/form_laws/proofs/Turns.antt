-- Parts that are moved turn back. Assumes nothing.
-- `Turn W f g s i j bs`: the walk W moved what stands in s from i to j to bs; wherever bs stands, W moves it back to what stood there. It holds of bytes and
-- of numbers, and passes on from parts to what they are made of (`back_then`), so each part of a slip is one line.
use Prim.Native.Nat.{ℕ, zero, suc, ◌+◌, ◌-◌, ◌*◌, ◌≤◌, ◌<◌}
use native.Mathlib.Nat.{add-zero}
use native.Mathlib.Omega.{arith}
use mathlib.Core.Path.{◌≡◌, refl, sym, ap, ◌∙◌}
use mathlib.Core.Bool.{Bool, true, false, cond}
use mathlib.Core.List.{List, [], ◌∷◌, ◌++◌, append_assoc}
use borrow.Author.Tests.{le-ltb, ltb-false}
use lib.Dec.{ltb}
use lib.ListN.{length, get_or, take, drop, length-append, length-take, length-drop}
use lib.Seq.{take_at, drop-drop, drop-cons}
use Rattle.groups.specs.declared.Form.{Form}
use Rattle.std.specs.Prelude.{Result, Ok, Err}
use Rattle.groups.specs.declared.NumberRefusal.{NumberRefusal}
use Rattle.groups.specs.Groups.{number_at, number_of}
use Rattle.slip_moves.specs.declared.Refusal.TheVariants.{TooShort, UnknownKind}
use Rattle.slip_moves.specs.Moves.{Part, put, stop, also, then, bytes_moved, number_written, ends_size, number_moved, numbers_moved, piece_of_kind, piece_moved, pieces_moved, mesh_moved, rest_moved, body_moved}
use Rattle.slip_moves.proofs.Parts.{no_part}
use Rattle.slip_moves.proofs.Ways.{bytes_there, good_kind}
use Rattle.slip_laws.specs.Plain.{IsByte}
use Rattle.slip_laws.proofs.Parts.{past}
use Rattle.slip_laws.proofs.Stands.{Stands, stands_none, stands_then}
use Rattle.form_laws.proofs.Numbers.{front, number_read, number_stood}

abbrev pub Bytes : List ℕ → Type 0
Bytes s = (i : ℕ) → IsByte (get_or s i 0)

-- a way to move a part, from one form to another, of a slip, from a place on
abbrev pub Way : Type 0
Way = Form → Form → List ℕ → ℕ → Part

pub record Turn (W : Way) (f g : Form) (s : List ℕ) (i j : ℕ) (bs : List ℕ) : Type 0 where
  pub bytes : List ℕ
  pub stood : Stands s i bytes j
  pub back : (t : List ℕ) (a : ℕ) (rest : List ℕ) → a ≤ length t → drop a t ≡ bs ++ rest → W g f t a ≡ put (a + length bs) bytes

abbrev pub Back : Way → Type 0
Back W = (f g : Form) (s : List ℕ) → Bytes s → (i j : ℕ) (bs : List ℕ) → W f g s i ≡ put j bs → Turn W f g s i j bs

-- how far a list goes that stands at a place
pub room : (t : List ℕ) (a : ℕ) (bs rest : List ℕ) → a ≤ length t → drop a t ≡ bs ++ rest → a + length bs + length rest ≡ length t
room t a bs rest l e =
    let size : length t - a ≡ length bs + length rest = sym (length-drop a t) ∙ ap length e ∙ length-append bs rest in omega (arith, size, l)

put_same : {j k : ℕ} {bs cs : List ℕ} → put j bs ≡ put k cs → (j ≡ k) × (bs ≡ cs)
put_same e = (cc e, cc e)

pub back_then : (W U : Way) → Back W → Back U → Back (λ f g s i. then (W f g s i) (U f g s))
unfolding then also
back_then W U hw hv f g s b i j bs e = go (W f g s i) refl e
  where
    both : (j₁ : ℕ) (b₁ : List ℕ) → W f g s i ≡ put j₁ b₁ → (j₂ : ℕ) (b₂ : List ℕ) → U f g s j₁ ≡ put j₂ b₂ → put j₂ (b₁ ++ b₂) ≡ put j bs
        → Turn (λ f g s i. then (W f g s i) (U f g s)) f g s i j bs
    both j₁ b₁ e₁ j₂ b₂ e₂ e =
        let u = hw f g s b i j₁ b₁ e₁ in
        let v = hv f g s b j₁ j₂ b₂ e₂ in
        let p = put_same e in
        record {
          bytes = u.bytes ++ v.bytes;
          stood = rw (sym p.0) (stands_then s i j₁ j₂ u.bytes v.bytes u.stood v.stood);
          back = λ t a rest l d.
              let d₁ : drop a t ≡ b₁ ++ (b₂ ++ rest) = d ∙ ap (λ x. x ++ rest) (sym p.1) ∙ append_assoc b₁ b₂ rest in
              let m = room t a b₁ (b₂ ++ rest) l d₁ in
              let one = u.back t a (b₂ ++ rest) l d₁ in
              let two = v.back t (a + length b₁) rest (omega (arith, m)) (past t a b₁ (b₂ ++ rest) (length b₁) refl d₁) in
              let place : a + length b₁ + length b₂ ≡ a + length bs = rw (sym p.1, length-append) (omega arith) in
              ap (λ x. then x (U g f t)) one ∙ ap (also u.bytes) two ∙ ap (λ (k : ℕ). put k (u.bytes ++ v.bytes)) place;
        }

    go₂ : (j₁ : ℕ) (b₁ : List ℕ) → W f g s i ≡ put j₁ b₁ → (y : Part) → U f g s j₁ ≡ y → also b₁ y ≡ put j bs → Turn (λ f g s i. then (W f g s i) (U f g s)) f g s i j bs
    go₂ j₁ b₁ e₁ (stop r) ey h = no_part (sym h)
    go₂ j₁ b₁ e₁ (put j₂ b₂) ey h = both j₁ b₁ e₁ j₂ b₂ ey h

    go : (x : Part) → W f g s i ≡ x → then x (U f g s) ≡ put j bs → Turn (λ f g s i. then (W f g s i) (U f g s)) f g s i j bs
    go (stop r) ex h = no_part (sym h)
    go (put j₁ b₁) ex h = go₂ j₁ b₁ ex (U f g s j₁) refl h

take_drop : (n : ℕ) (l : List ℕ) → l ≡ take n l ++ drop n l
take_drop zero l = refl
take_drop (suc n) [] = refl
take_drop (suc n) (x ∷ l) = ap (λ t. x ∷ t) (take_drop n l)

pub back_bytes : (n : ℕ) → Back (λ f g s i. bytes_moved s n i)
unfolding bytes_moved
back_bytes n f g s b i j bs e = go (ltb (length s) (i + n)) refl e
  where
    go : (c : Bool) → ltb (length s) (i + n) ≡ c → cond c (stop TooShort) (put (i + n) (take n (drop i s))) ≡ put j bs → Turn (λ f g s i. bytes_moved s n i) f g s i j bs
    go true ec h = no_part (sym h)
    go false ec h =
        let p = put_same h in
        let size : length bs ≡ n = ap length (sym p.1) ∙ rw (length-take, length-drop) (omega (arith, ltb-false (length s) (i + n) ec)) in
        record {
          bytes = bs;
          stood = take_drop n (drop i s) ∙ (λ t. p.1 t ++ drop-drop n i s t) ∙ ap (λ (k : ℕ). bs ++ drop k s) p.0;
          back = λ t a rest l d.
              rw (size, le-ltb (length t) (a + n) (omega (arith, room t a bs rest l d, size))) (ap (put (a + n)) (ap (take n) d ∙ take_at bs rest n size));
        }

pub back_number : Back number_moved
unfolding number_moved number_written
back_number f g s b i j bs e = go (number_at f s i) refl e
  where
    go : (x : Result (ℕ × ℕ) NumberRefusal) → number_at f s i ≡ x → number_written g x ≡ put j bs → Turn number_moved f g s i j bs
    go (Err why) ex h = no_part (sym h)
    go (Ok (n, next)) ex h =
        let p = put_same h in
        let stood = number_stood s b f i n next ex in
        record {
          bytes = number_of f n;
          stood = rw (sym p.0) stood.0;
          back = λ t a rest l d.
              ap (number_written f) (number_read g n t a rest stood.1 (d ∙ ap (λ x. x ++ rest) (sym p.1))) ∙ ap (λ (x : List ℕ). put (a + length x) (number_of f n)) p.1;
        }

back_none : Back (λ f g s i. put i [])
back_none f g s b i j bs e =
    let p = put_same e in
    record {
      bytes = [];
      stood = stands_none s i j p.0;
      back = λ t a rest l d. (λ k. put (sym (add-zero a) k) []) ∙ ap (λ (x : List ℕ). put (a + length x) []) p.1;
    }

pub back_numbers : (n : ℕ) → Back (λ f g s i. numbers_moved f g s n i)
unfolding numbers_moved
back_numbers zero = back_none
back_numbers (suc n) = back_then number_moved (λ f g s i. numbers_moved f g s n i) back_number (back_numbers n)

back_kind : (kind : ℕ) → Back (λ f g s i. piece_of_kind f g s kind i)
unfolding piece_of_kind
back_kind kind =
    back_then (λ f g s i. bytes_moved s 1 i) (λ f g s i. then (number_moved f g s i) (bytes_moved s (ends_size kind))) (back_bytes 1)
    (back_then number_moved (λ f g s i. bytes_moved s (ends_size kind) i) back_number (back_bytes (ends_size kind)))

-- the kind is the first byte of a piece
kind_first : (f g : Form) (s : List ℕ) (kind i j : ℕ) (bs : List ℕ) → i < length s → piece_of_kind f g s kind i ≡ put j bs → (more : List ℕ) × (bs ≡ get_or s i 0 ∷ more)
unfolding piece_of_kind then also
kind_first f g s kind i j bs l e =
    go (then (number_moved f g s (i + 1)) (bytes_moved s (ends_size kind))) (ap (λ x. then x (λ k. then (number_moved f g s k) (bytes_moved s (ends_size kind)))) (sym one) ∙ e)
  where
    one : bytes_moved s 1 i ≡ put (i + 1) (get_or s i 0 ∷ [])
    one = bytes_there s i 1 (omega (arith, l)) ∙ ap (λ t. put (i + 1) (take 1 t)) (drop-cons s i 0 l)

    go : (y : Part) → also (get_or s i 0 ∷ []) y ≡ put j bs → (more : List ℕ) × (bs ≡ get_or s i 0 ∷ more)
    go (stop r) h = no_part (sym h)
    go (put k cs) h = (cs, sym (put_same h).1)

back_piece : Back piece_moved
unfolding piece_moved
back_piece f g s b i j bs e = go (ltb (length s) (i + 1)) (ltb 1 (get_or s i 0)) refl refl e
  where
    go : (c d : Bool) → ltb (length s) (i + 1) ≡ c → ltb 1 (get_or s i 0) ≡ d → cond c (stop TooShort) (cond d (stop UnknownKind) (piece_of_kind f g s (get_or s i 0) i)) ≡ put j bs
        → Turn piece_moved f g s i j bs
    go true d ec ed h = no_part (sym h)
    go false true ec ed h = no_part (sym h)
    go false false ec ed h =
        let there : i < length s = omega (arith, ltb-false (length s) (i + 1) ec) in
        let u = back_kind (get_or s i 0) f g s b i j bs h in
        let first = kind_first f g s (get_or s i 0) i j bs there h in
        record {
          bytes = u.bytes;
          stood = u.stood;
          back = λ t a rest l d.
              let k = front t a (get_or s i 0) (first.0 ++ rest) (d ∙ ap (λ x. x ++ rest) first.1) in
              good_kind g f t a k.0 (omega (arith, k.1.0, ltb-false 1 (get_or s i 0) ed)) ∙ ap (λ (x : ℕ). piece_of_kind g f t x a) k.1.0 ∙ u.back t a rest l d;
        }

pub back_pieces : (n : ℕ) → Back (λ f g s i. pieces_moved f g s n i)
unfolding pieces_moved
back_pieces zero = back_none
back_pieces (suc n) = back_then piece_moved (λ f g s i. pieces_moved f g s n i) back_piece (back_pieces n)

back_mesh : (v t : ℕ) → Back (λ f g s i. mesh_moved f g s v t i)
unfolding mesh_moved
back_mesh v t =
    back_then (λ f g s i. bytes_moved s (24 * v) i) (λ f g s i. then (numbers_moved f g s (3 * t) i) (bytes_moved s v)) (back_bytes (24 * v))
    (back_then (λ f g s i. numbers_moved f g s (3 * t) i) (λ f g s i. bytes_moved s v i) (back_numbers (3 * t)) (back_bytes v))

back_rest : (p : ℕ) → Back (λ f g s i. rest_moved f g s p i)
unfolding rest_moved
back_rest p = back_then (λ f g s i. pieces_moved f g s p i) (λ f g s i. bytes_moved s 8 i) (back_pieces p) (back_bytes 8)

pub back_body : (v t p : ℕ) → Back (λ f g s i. body_moved f g s v t p i)
unfolding body_moved
back_body v t p = back_then (λ f g s i. mesh_moved f g s v t i) (λ f g s i. rest_moved f g s p i) (back_mesh v t) (back_rest p)
