-- A slip that is moved to a form is moved back to the same bytes. Assumes nothing.
use Prim.Native.Nat.{ℕ, ◌+◌, ◌≤◌, ◌<◌}
use native.Mathlib.Omega.{arith}
use mathlib.Core.Path.{◌≡◌, refl, sym, ap, ◌∙◌}
use mathlib.Core.Bool.{Bool, true, false, cond}
use mathlib.Core.List.{List, [], ◌∷◌, ◌++◌, append_assoc, append-nil}
use borrow.Author.Tests.{lt-ltb, ltb-true, ltb-false, eqb-true}
use lib.Dec.{eqb, ltb}
use lib.ListN.{length, get_or, drop, length-append, drop_of_length-le}
use lib.Seq.{drop-append_seam}
use Rattle.groups.specs.declared.Form.{Form}
use Rattle.groups.specs.declared.Form.TheVariants.{Plain, Groups}
use Rattle.std.specs.Prelude.{Result, Ok, Err}
use Rattle.groups.specs.declared.NumberRefusal.{NumberRefusal}
use Rattle.groups.specs.Groups.{number_at, number_of}
use Rattle.slip_moves.specs.declared.Refusal.{Refusal}
use Rattle.slip_moves.specs.declared.Refusal.TheVariants.{TooShort, NotGroups, LeftOver}
use Rattle.slip_moves.specs.declared.Counts.{Counts}
use Rattle.slip_moves.specs.Moves.{Part, put, stop, also, then, with_count, counted, counts_at, form_head_at, first_byte, head_bytes, body_moved, ended, slip_moved}
use Rattle.slip_moves.proofs.Parts.{no_part}
use Rattle.slip_moves.proofs.Ways.{at_end_lem}
use Rattle.slip_moves.proofs.Heads.{same_counts}
use Rattle.slip_moves.proofs.Whole.{refused_head, counted_head}
use Rattle.slip_laws.proofs.Parts.{past}
use Rattle.slip_laws.proofs.Stands.{Stands, stands_none, stands_then, stands_byte}
use Rattle.form_laws.proofs.Numbers.{read_as, number_read, number_stood}
use Rattle.form_laws.proofs.Turns.{Bytes, back_body}

pub no_head : {A : Type 0} {v t p i : ℕ} {why : Refusal} → Err why ≡ counted v t p i → A
no_head e = absurd (let z : ◌≡◌ {A = ℕ} 0 1 = cc e in omega arith)

pub counted_cases : {v t p i : ℕ} (x : Result (ℕ × ℕ) NumberRefusal) (rest : ℕ → ℕ → Result Counts Refusal) → with_count x rest ≡ counted v t p i → (n next : ℕ) × ((x ≡ read_as n next) × (rest n next ≡ counted v t p i))
unfolding with_count
counted_cases (Err why) rest e = no_head e
counted_cases (Ok (n, next)) rest e = (n, next, (refl, e))

-- ---- the counts

pub record Small (v t p : ℕ) : Type 0 where
  pub vertices : v < 4_294_967_296
  pub triangles : t < 4_294_967_296
  pub pieces : p < 4_294_967_296

module _ (s : List ℕ) (b : Bytes s) {v t p i : ℕ} where
  counts_stood : (form : Form) (i₀ : ℕ) (pre : List ℕ) → Stands s 0 pre i₀ → counts_at form s i₀ ≡ counted v t p i
      → Stands s 0 (pre ++ number_of form v ++ number_of form t ++ number_of form p) i × Small v t p
  unfolding counts_at
  counts_stood form i₀ pre d e =
      let one = counted_cases (number_at form s i₀) (λ x j. with_count (number_at form s j) (λ y k. with_count (number_at form s k) (λ z l. counted x y z l))) e in
      let two = counted_cases (number_at form s one.1) (λ y k. with_count (number_at form s k) (λ z l. counted one.0 y z l)) one.2.1 in
      let three = counted_cases (number_at form s two.1) (λ z l. counted one.0 two.0 z l) two.2.1 in
      let same = same_counts three.2.1 in
      let ev = same.0 in
      let et = same.1.0 in
      let ep = same.1.1.0 in
      let ei = same.1.1.1 in
      let a = number_stood s b form i₀ one.0 one.1 one.2.0 in
      let c = number_stood s b form one.1 two.0 two.1 two.2.0 in
      let f = number_stood s b form two.1 three.0 three.1 three.2.0 in
      let all = stands_then s 0 two.1 three.1 (pre ++ number_of form one.0 ++ number_of form two.0) (number_of form three.0)
      (stands_then s 0 one.1 two.1 (pre ++ number_of form one.0) (number_of form two.0) (stands_then s 0 i₀ one.1 pre (number_of form one.0) d a.0) c.0) f.0 in (
        all ∙ (λ k. (pre ++ number_of form (ev k) ++ number_of form (et k) ++ number_of form (ep k)) ++ drop (ei k) s),
        record { vertices = omega (arith, ev, a.1); triangles = omega (arith, et, c.1); pieces = omega (arith, ep, f.1) },
      )

  pub head_stood : (form : Form) → form_head_at form s ≡ counted v t p i → Stands s 0 (head_bytes form v t p) i × Small v t p
  unfolding form_head_at head_bytes first_byte
  head_stood Plain e = counts_stood Plain 0 [] (stands_none s 0 0 refl) e
  head_stood Groups e = go (ltb 0 (length s)) (eqb (get_or s 0 0) 2) refl refl e
    where
      go : (c d : Bool) → ltb 0 (length s) ≡ c → eqb (get_or s 0 0) 2 ≡ d → cond c (cond d (counts_at Groups s 1) (Err NotGroups)) (Err TooShort) ≡ counted v t p i
          → Stands s 0 ((2 ∷ []) ++ number_of Groups v ++ number_of Groups t ++ number_of Groups p) i × Small v t p
      go false d ec ed h = no_head h
      go true false ec ed h = no_head h
      go true true ec ed h =
          counts_stood Groups 1 (2 ∷ []) (stands_byte s 0 1 refl (ltb-true 0 (length s) ec) ∙ ap (λ (x : ℕ). x ∷ drop 1 s) (eqb-true (get_or s 0 0) 2 ed)) h

module _ {v t p : ℕ} (small : Small v t p) where
  counts_read : (form : Form) (l : List ℕ) (i : ℕ) (rest : List ℕ) → drop i l ≡ number_of form v ++ (number_of form t ++ (number_of form p ++ rest))
      → counts_at form l i ≡ counted v t p (i + length (number_of form v) + length (number_of form t) + length (number_of form p))
  unfolding counts_at with_count
  counts_read form l i rest d =
      let d₁ = past l i (number_of form v) (number_of form t ++ (number_of form p ++ rest)) (length (number_of form v)) refl d in
      let d₂ = past l (i + length (number_of form v)) (number_of form t) (number_of form p ++ rest) (length (number_of form t)) refl d₁ in
      rw (
        number_read form v l i (number_of form t ++ (number_of form p ++ rest)) small.vertices d,
        number_read form t l (i + length (number_of form v)) (number_of form p ++ rest) small.triangles d₁,
        number_read form p l (i + length (number_of form v) + length (number_of form t)) rest small.pieces d₂,
      )

  pub head_read : (form : Form) (rest : List ℕ) → form_head_at form (head_bytes form v t p ++ rest) ≡ counted v t p (length (head_bytes form v t p))
  unfolding form_head_at head_bytes first_byte
  head_read Plain rest =
      counts_read Plain (number_of Plain v ++ number_of Plain t ++ number_of Plain p ++ rest) 0 rest (simp append_assoc)
      ∙ ap (counted v t p) (simp length-append (omega arith))
  head_read Groups rest =
      let l = number_of Groups v ++ number_of Groups t ++ number_of Groups p ++ rest in
      rw (lt-ltb 0 (length (2 ∷ l)) (omega arith)) (counts_read Groups (2 ∷ l) 1 rest (simp append_assoc) ∙ ap (counted v t p) (simp length-append (omega arith)))

-- ---- the theorem

module _ (f g : Form) (s : List ℕ) (b : Bytes s) (j : ℕ) (bs : List ℕ) where
  module _ {v t p i : ℕ} (head : form_head_at f s ≡ counted v t p i) (j₁ : ℕ) (b₁ : List ℕ) (body : body_moved f g s v t p i ≡ put j₁ b₁) (all : length s ≤ j₁) (whole : head_bytes g v t p ++ b₁ ≡ bs) where
    turned : slip_moved g f bs ≡ put (length bs) s
    unfolding then also
    turned =
        let first = head_stood s b f head in
        let h = head_bytes g v t p in
        let u = back_body v t p f g s b i j₁ b₁ body in
        let again : form_head_at g bs ≡ counted v t p (length h) = ap (form_head_at g) (sym whole) ∙ head_read first.1 g b₁ in
        let size : length h + length b₁ ≡ length bs = sym (length-append h b₁) ∙ ap length whole in
        let behind : drop (length h) bs ≡ b₁ ++ [] = ap (drop (length h)) (sym whole) ∙ drop-append_seam h b₁ ∙ sym (append-nil b₁) in
        let turn : body_moved g f bs v t p (length h) ≡ put (length bs) u.bytes =
        u.back bs (length h) [] (omega (arith, size)) behind ∙ ap (λ (k : ℕ). put k u.bytes) size in
        let was : s ≡ head_bytes f v t p ++ (u.bytes ++ []) =
        first.0 ∙ ap (λ l. head_bytes f v t p ++ l) (u.stood ∙ ap (λ l. u.bytes ++ l) (drop_of_length-le s {i = j₁} all)) in
        counted_head g f bs again ∙ ap (λ x. also (head_bytes f v t p) (then x (ended bs))) turn
        ∙ ap (λ x. also (head_bytes f v t p) (also u.bytes x)) (at_end_lem bs (length bs) (omega arith)) ∙ ap (put (length bs)) (sym was)

  -- whatever the forms: what a slip is moved to is moved back to it
  pub moved_back : slip_moved f g s ≡ put j bs → slip_moved g f bs ≡ put (length bs) s
  unfolding then also ended
  moved_back e = go (form_head_at f s) refl
    where
      end : {v t p i : ℕ} → form_head_at f s ≡ counted v t p i → (j₁ : ℕ) (b₁ : List ℕ) → body_moved f g s v t p i ≡ put j₁ b₁ → (c : Bool) → ltb j₁ (length s) ≡ c
          → also (head_bytes g v t p) (also b₁ (cond c (stop LeftOver) (put j₁ []))) ≡ put j bs → slip_moved g f bs ≡ put (length bs) s
      end head j₁ b₁ body true ec h = no_part (sym h)
      end {v} {t} {p} head j₁ b₁ body false ec h =
          let q : head_bytes g v t p ++ (b₁ ++ []) ≡ bs = cc h in
          turned head j₁ b₁ body (ltb-false j₁ (length s) ec) (ap (λ l. head_bytes g v t p ++ l) (sym (append-nil b₁)) ∙ q)

      through : {v t p i : ℕ} → form_head_at f s ≡ counted v t p i → (x : Part) → body_moved f g s v t p i ≡ x → also (head_bytes g v t p) (then x (ended s)) ≡ put j bs → slip_moved g f bs ≡ put (length bs) s
      through head (stop r) ex h = no_part (sym h)
      through head (put j₁ b₁) ex h = end head j₁ b₁ ex (ltb j₁ (length s)) refl h

      go : (h : Result Counts Refusal) → form_head_at f s ≡ h → slip_moved g f bs ≡ put (length bs) s
      go (Err r) eh = no_part (sym e ∙ refused_head f g s eh)
      go (Ok c) eh = through eh (body_moved f g s c.vertices c.triangles c.pieces c.next) refl (sym (counted_head f g s eh) ∙ e)

-- so no two slips of valid shape in one form are moved to one slip in another
pub one_form : (f g : Form) (s t : List ℕ) → Bytes s → Bytes t → (j k : ℕ) (bs : List ℕ) → slip_moved f g s ≡ put j bs → slip_moved f g t ≡ put k bs → s ≡ t
one_form f g s t bytes-s bytes-t j k bs e h =
    let q : put (length bs) s ≡ put (length bs) t = sym (moved_back f g s bytes-s j bs e) ∙ moved_back f g t bytes-t k bs h in cc q
