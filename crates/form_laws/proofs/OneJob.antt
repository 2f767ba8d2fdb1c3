-- One job has one form in groups. Assumes nothing.
-- A plain slip that a move walks to its end is a slip that the reader accepts where there is room for its counts (`shape_accepted`), so that `one_slip` holds of it; and `one_form` goes from the plain slips to those in groups.
use Prim.Native.Nat.{ℕ, zero, suc, ◌+◌, ◌*◌, ◌≤◌}
use native.Mathlib.Omega.{arith}
use mathlib.Core.Path.{◌≡◌, refl, sym, ap, ◌∙◌}
use mathlib.Core.Bool.{Bool, true, false, cond, ◌||◌}
use mathlib.Core.List.{List}
use borrow.Author.Tests.{le-ltb, ltb-false}
use lib.Dec.{eqb, ltb}
use lib.ListN.{length, get_or, take, drop}
use Rattle.job_checks.specs.Job as job
use Rattle.little_endian.specs.Bytes.{number_from}
use Rattle.groups.specs.declared.Form.{Form}
use Rattle.groups.specs.declared.Form.TheVariants.{Plain, Groups}
use Rattle.groups.specs.declared.NumberRefusal.TheVariants.{Short}
use Rattle.groups.proofs.Small.{same_number}
use Rattle.groups.specs.Groups.{number_at}
use Rattle.slip.specs.declared.SlipJob.{SlipJob}
use Rattle.slip.specs.declared.SlipRefusal.{SlipRefusal}
use Rattle.slip.specs.declared.SlipRefusal.TheVariants as slip
use Rattle.slip.specs.Format.{is_job, vertex_count_in, triangle_count_in, piece_count_in, pieces_from, piece_size, job_in, exceeds, after_pieces, answer_to}
use Rattle.slip_laws.specs.Plain as plain
use Rattle.slip_laws.proofs.Back.{vertices_told, triangles_told, pieces_told, one_slip}
use Rattle.slip_moves.specs.declared.Refusal.TheVariants.{TooShort, UnknownKind}
use Rattle.std.specs.Prelude.{Result, Ok, Err}
use Rattle.slip_moves.specs.declared.Refusal.{Refusal}
use Rattle.slip_moves.specs.declared.Counts.{Counts}
use Rattle.slip_moves.specs.Moves.{put, stop, then, with_count, counted, counts_at, bytes_moved, number_written, ends_size, number_moved, numbers_moved, piece_of_kind, piece_moved, pieces_moved, form_head_at, head_bytes, mesh_moved, rest_moved, body_moved, ended, slip_moved}
use Rattle.slip_moves.proofs.Parts.{no_part}
use Rattle.slip_moves.proofs.Heads.{same_counts}
use Rattle.slip_moves.proofs.Whole.{refused_head, counted_head}
use Rattle.form_laws.proofs.Numbers.{read_as}
use Rattle.form_laws.proofs.Turns.{Bytes}
use Rattle.form_laws.proofs.Back.{counted_cases, moved_back, one_form}
use Rattle.form_read.specs.Places.{job_at}
use Rattle.form_laws.proofs.Same.{split, also_split, at_its_end, same_job}
use Rattle.form_laws.proofs.MovedBytes.{moved_bytes}

-- ---- what a plain slip has where it is walked

has_bytes : (s : List ℕ) (n i j : ℕ) (bs : List ℕ) → bytes_moved s n i ≡ put j bs → (i + n ≤ length s) × (i + n ≡ j)
unfolding bytes_moved
has_bytes s n i j bs e = go (ltb (length s) (i + n)) refl e
  where
    go : (b : Bool) → ltb (length s) (i + n) ≡ b → cond b (stop TooShort) (put (i + n) (take n (drop i s))) ≡ put j bs → (i + n ≤ length s) × (i + n ≡ j)
    go true eb h = no_part (sym h)
    go false eb h = (ltb-false (length s) (i + n) eb, cc h)

size_is : (kind : ℕ) → piece_size kind ≡ 5 + ends_size kind
unfolding piece_size ends_size
size_is kind = go (eqb kind 0)
  where
    go : (b : Bool) → cond b 29 53 ≡ 5 + cond b 24 48
    go true = refl
    go false = refl

-- three tests that fail leave what stands behind them
pub passed : (b c d : Bool) (x y z w : Result SlipJob SlipRefusal) → b ≡ false → c ≡ false → d ≡ false → is_job w ≡ true → is_job (cond b x (cond c y (cond d z w))) ≡ true
passed b c d x y z w eb ec ed h = rw (eb, ec, ed) h

module _ (s : List ℕ) where
  plain_number : (i n next : ℕ) → number_at Plain s i ≡ read_as n next → (i + 4 ≤ length s) × ((n ≡ number_from s i) × (next ≡ i + 4))
  unfolding number_at
  plain_number i n next e = go (ltb (length s) (i + 4)) refl e
    where
      go : (b : Bool) → ltb (length s) (i + 4) ≡ b → cond b (Err Short) (read_as (number_from s i) (i + 4)) ≡ read_as n next → (i + 4 ≤ length s) × ((n ≡ number_from s i) × (next ≡ i + 4))
      go true eb h = absurd (let z : ◌≡◌ {A = ℕ} 0 1 = cc h in omega arith)
      go false eb h =
          let same = same_number h in (ltb-false (length s) (i + 4) eb, (sym same.0, sym same.1))

  -- the three counts stand in the first twelve bytes
  plain_head : {v t p i : ℕ} → form_head_at Plain s ≡ counted v t p i → (12 ≤ length s) × ((v ≡ vertex_count_in s) × ((t ≡ triangle_count_in s) × ((p ≡ piece_count_in s) × (i ≡ 12))))
  unfolding form_head_at counts_at
  plain_head {v} {t} {p} {i} e =
      let one = counted_cases (number_at Plain s 0) (λ x j. with_count (number_at Plain s j) (λ y k. with_count (number_at Plain s k) (λ z l. counted x y z l))) e in
      let two = counted_cases (number_at Plain s one.1) (λ y k. with_count (number_at Plain s k) (λ z l. counted one.0 y z l)) one.2.1 in
      let three = counted_cases (number_at Plain s two.1) (λ z l. counted one.0 two.0 z l) two.2.1 in
      let same = same_counts three.2.1 in
      let ev = same.0 in
      let et = same.1.0 in
      let ep = same.1.1.0 in
      let ei = same.1.1.1 in
      let a = plain_number 0 one.0 one.1 one.2.0 in
      let b = plain_number one.1 two.0 two.1 two.2.0 in
      let c = plain_number two.1 three.0 three.1 three.2.0 in
      let four : one.1 ≡ 4 = a.1.1 in
      let eight : two.1 ≡ 8 = omega (arith, four, b.1.1) in (
        omega (arith, eight, c.0),
        (
          sym ev ∙ a.1.0,
          (sym et ∙ b.1.0 ∙ ap (number_from s) four, (sym ep ∙ c.1.0 ∙ ap (number_from s) eight, omega (arith, ei, eight, c.1.1))),
        ),
      )

  module _ (g : Form) where
    has_number : (i j : ℕ) (bs : List ℕ) → number_moved Plain g s i ≡ put j bs → (i + 4 ≤ length s) × (i + 4 ≡ j)
    unfolding number_moved number_at number_written
    has_number i j bs e = go (ltb (length s) (i + 4)) refl e
      where
        go : (b : Bool) → ltb (length s) (i + 4) ≡ b → number_written g (cond b (Err Short) (read_as (number_from s i) (i + 4))) ≡ put j bs → (i + 4 ≤ length s) × (i + 4 ≡ j)
        go true eb h = no_part (sym h)
        go false eb h = (ltb-false (length s) (i + 4) eb, cc h)

    has_numbers : (n i j : ℕ) (bs : List ℕ) → numbers_moved Plain g s n i ≡ put j bs → i ≤ length s → (j ≤ length s) × (i + 4 * n ≡ j)
    unfolding numbers_moved
    has_numbers zero i j bs e l = let ej : i ≡ j = cc e in (omega (arith, ej, l), omega (arith, ej))
    has_numbers (suc n) i j bs e l =
        let p = split (number_moved Plain g s i) (numbers_moved Plain g s n) j bs e in
        let a = has_number i p.middle p.first p.one in
        let r = has_numbers n p.middle j p.rest p.two (omega (arith, a.0, a.1)) in (r.0, omega (arith, a.1, r.1))

    has_piece : (i j : ℕ) (bs : List ℕ) → piece_moved Plain g s i ≡ put j bs
        → (i + 1 ≤ length s) × ((get_or s i 0 ≤ 1) × ((i + piece_size (get_or s i 0) ≤ length s) × (i + piece_size (get_or s i 0) ≡ j)))
    unfolding piece_moved piece_of_kind
    has_piece i j bs e = go (ltb (length s) (i + 1)) (ltb 1 (get_or s i 0)) refl refl e
      where
        go : (b c : Bool) → ltb (length s) (i + 1) ≡ b → ltb 1 (get_or s i 0) ≡ c → cond b (stop TooShort) (cond c (stop UnknownKind) (piece_of_kind Plain g s (get_or s i 0) i)) ≡ put j bs
            → (i + 1 ≤ length s) × ((get_or s i 0 ≤ 1) × ((i + piece_size (get_or s i 0) ≤ length s) × (i + piece_size (get_or s i 0) ≡ j)))
        go true c eb ec h = no_part (sym h)
        go false true eb ec h = no_part (sym h)
        go false false eb ec h =
            let ends = ends_size (get_or s i 0) in
            let p = split (bytes_moved s 1 i) (λ k. then (number_moved Plain g s k) (bytes_moved s ends)) j bs h in
            let q = split (number_moved Plain g s p.middle) (bytes_moved s ends) j p.rest p.two in
            let x = has_bytes s 1 i p.middle p.first p.one in
            let y = has_number p.middle q.middle q.first q.one in
            let z = has_bytes s ends q.middle j q.rest q.two in
            let size = size_is (get_or s i 0) in
            (x.0, (ltb-false 1 (get_or s i 0) ec, (omega (arith, size, x.1, y.1, z.0), omega (arith, size, x.1, y.1, z.1))))

    -- ---- so the reader's walk goes on as the move's does
    pieces_accepted : (n i j : ℕ) (bs : List ℕ) → pieces_moved Plain g s n i ≡ put j bs → is_job (after_pieces s 0 j) ≡ true → is_job (after_pieces s n i) ≡ true
    unfolding pieces_moved after_pieces
    pieces_accepted zero i j bs e h = let ej : i ≡ j = cc e in ap (λ (k : ℕ). is_job (after_pieces s 0 k)) ej ∙ h
    pieces_accepted (suc n) i j bs e h =
        let kind = get_or s i 0 in
        let p = split (piece_moved Plain g s i) (pieces_moved Plain g s n) j bs e in
        let a = has_piece i p.middle p.first p.one in
        let r : is_job (after_pieces s n (i + piece_size kind)) ≡ true =
        ap (λ (k : ℕ). is_job (after_pieces s n k)) a.1.1.1 ∙ pieces_accepted n p.middle j p.rest p.two h in
        passed (ltb (length s) (i + 1)) (ltb 1 kind) (ltb (length s) (i + piece_size kind)) (Err slip.TooShort) (Err slip.UnknownKind) (Err slip.TooShort) (after_pieces s n (i + piece_size kind))
        (le-ltb (length s) (i + 1) a.0) (le-ltb 1 kind a.1.0) (le-ltb (length s) (i + piece_size kind) a.1.1.0) r

    limit_accepted : (i : ℕ) → i + 8 ≡ length s → is_job (after_pieces s 0 i) ≡ true
    unfolding after_pieces
    limit_accepted i e = rw (le-ltb (length s) (i + 8) (omega (arith, e)), le-ltb (i + 8) (length s) (omega (arith, e))) refl

    body_accepted : (v t p i j : ℕ) (bs : List ℕ) → (12 ≤ length s) × ((v ≡ vertex_count_in s) × ((t ≡ triangle_count_in s) × ((p ≡ piece_count_in s) × (i ≡ 12))))
        → body_moved Plain g s v t p i ≡ put j bs → length s ≤ j → is_job (answer_to s (vertex_count_in s) (triangle_count_in s) (piece_count_in s)) ≡ true
    unfolding body_moved mesh_moved rest_moved answer_to exceeds
    body_accepted v t p i j bs h e l =
        let ev = h.1.0 in
        let et = h.1.1.0 in
        let ep = h.1.1.1.0 in
        let body = split (mesh_moved Plain g s v t i) (rest_moved Plain g s p) j bs e in
        let mesh = split (bytes_moved s (24 * v) i) (λ k. then (numbers_moved Plain g s (3 * t) k) (bytes_moved s v)) body.middle body.first body.one in
        let more = split (numbers_moved Plain g s (3 * t) mesh.middle) (bytes_moved s v) body.middle mesh.rest mesh.two in
        let rest = split (pieces_moved Plain g s p body.middle) (bytes_moved s 8) j body.rest body.two in
        let a = has_bytes s (24 * v) i mesh.middle mesh.first mesh.one in
        let b = has_numbers (3 * t) mesh.middle more.middle more.first more.one (omega (arith, a.0, a.1)) in
        let c = has_bytes s v more.middle body.middle more.rest more.two in
        let d = has_bytes s 8 rest.middle j rest.rest rest.two in
        let place : body.middle ≡ pieces_from s = omega (arith, ev, et, h.1.1.1.1, a.1, b.1, c.1) in
        let there : pieces_from s ≤ length s = omega (arith, place, c.0, c.1) in
        let last = limit_accepted rest.middle (omega (arith, d.0, d.1, l)) in
        let pieces = pieces_accepted p body.middle rest.middle rest.first rest.one last in
        let these : is_job (after_pieces s (piece_count_in s) (pieces_from s)) ≡ true = (λ k. is_job (after_pieces s (sym ep k) (sym place k))) ∙ pieces in
        passed (ltb (length s) 12) (ltb (vertex_count_in s) (vertex_count_in s) || ltb (triangle_count_in s) (triangle_count_in s) || ltb (piece_count_in s) (piece_count_in s)) (ltb (length s) (pieces_from s))
        (Err slip.TooShort) (Err slip.TooMany) (Err slip.TooShort) (after_pieces s (piece_count_in s) (pieces_from s)) (le-ltb (length s) 12 h.0)
        (rw (le-ltb (vertex_count_in s) (vertex_count_in s) (omega arith), le-ltb (triangle_count_in s) (triangle_count_in s) (omega arith), le-ltb (piece_count_in s) (piece_count_in s) (omega arith)) refl)
        (le-ltb (length s) (pieces_from s) there) these

    -- a plain slip that a move takes is a slip that the reader takes, where there is room for its counts
    pub shape_accepted : (j : ℕ) (bs : List ℕ) → slip_moved Plain g s ≡ put j bs → is_job (answer_to s (vertex_count_in s) (triangle_count_in s) (piece_count_in s)) ≡ true
    shape_accepted j bs e = go (form_head_at Plain s) refl
      where
        go : (h : Result Counts Refusal) → form_head_at Plain s ≡ h → is_job (answer_to s (vertex_count_in s) (triangle_count_in s) (piece_count_in s)) ≡ true
        go (Err r) eh = no_part (sym e ∙ refused_head Plain g s eh)
        go (Ok c) eh =
            let whole = also_split (head_bytes g c.vertices c.triangles c.pieces) (then (body_moved Plain g s c.vertices c.triangles c.pieces c.next) (ended s)) j bs (sym (counted_head Plain g s eh) ∙ e) in
            let last = split (body_moved Plain g s c.vertices c.triangles c.pieces c.next) (ended s) j whole.0 whole.1.0 in
            let end = at_its_end s last.middle j last.rest last.two in
            body_accepted c.vertices c.triangles c.pieces c.next last.middle last.first (plain_head eh) last.one end.0

-- ---- the theorem: two slips in groups that hold one job are one, where every NaN of theirs has the pattern that is written
module _ (t u : List ℕ) (bt : Bytes t) (bu : Bytes u) (j k : ℕ) (s w : List ℕ) (et : slip_moved Groups Plain t ≡ put j s) (eu : slip_moved Groups Plain u ≡ put k w) where
  one_plain_job : plain.Plain s → plain.Plain w → job_in s ≡ job_in w → t ≡ u
  one_plain_job ps pw e =
      let bs = moved_bytes t bt j s et in
      let bw = moved_bytes u bu k w eu in
      let js = shape_accepted s Groups (length s) t (moved_back Groups Plain t bt j s et) in
      let jw = shape_accepted w Groups (length w) u (moved_back Groups Plain u bu k w eu) in
      let v : vertex_count_in w ≡ vertex_count_in s = sym (vertices_told w) ∙ ap job.vertex_count (sym e) ∙ vertices_told s in
      let n : triangle_count_in w ≡ triangle_count_in s = sym (triangles_told w) ∙ ap job.triangle_count (sym e) ∙ triangles_told s in
      let p : piece_count_in w ≡ piece_count_in s = sym (pieces_told w) ∙ ap job.piece_count (sym e) ∙ pieces_told s in
      let same : s ≡ w = one_slip s w bs bw ps pw (vertex_count_in s) (triangle_count_in s) (piece_count_in s) js ((λ q. is_job (answer_to w (sym v q) (sym n q) (sym p q))) ∙ jw) e in
      one_form Groups Plain t u bt bu j k w (et ∙ ap (put j) same) eu

  pub one_job : {v n p i v' n' p' i' : ℕ} → form_head_at Groups t ≡ counted v n p i → form_head_at Groups u ≡ counted v' n' p' i' → plain.Plain s → plain.Plain w
      → job_at t v n p i ≡ job_at u v' n' p' i' → t ≡ u
  one_job ht hu ps pw e = one_plain_job ps pw (sym (same_job t bt ht j s et) ∙ e ∙ same_job u bu hu k w eu)
