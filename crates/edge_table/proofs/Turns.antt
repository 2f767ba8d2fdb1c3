-- The ways that a side can go: its edge is new, it is there with one face, or it is there with two. Assumes nothing.
use Prim.Native.Nat.{ℕ, zero, suc, ◌+◌, ◌*◌, ◌-◌, ◌/◌, ◌%◌, ◌<◌, ◌≤◌}
use mathlib.Core.Path.{◌≡◌, refl, sym, ap, subst, ◌∙◌}
use mathlib.Core.Bool.{true, cond, ◌&&◌, and-false}
use mathlib.Core.List.{List, [], ◌∷◌, ◌++◌}
use mathlib.Core.Logic.{⊎_elim, ◌≢◌}
use native.Mathlib.Decide.{ℕ_discrete, dec_le}
use native.Mathlib.Nat.{eq-or-lt_of_le}
use native.Mathlib.Numerals.{add-one}
use native.Mathlib.Omega.{arith}
use borrow.Author.Tests.{lt-ltb, le-ltb}
use lib.Dec.{ltb}
use lib.ListN.{length, get_or, set, length-append, get_or-append, get_or-eq_default}
use lib.Seq.{get_or-append_seam, get_or_at}
use Rattle.layout.specs.Layout.{words_per_round, round_head, words_per_edge, edge_low, edge_high, edge_first_face, edge_second_face, edge_head, edge_scratch, words_per_triangle}
use Rattle.buffers.specs.Slots.{fill}
use Rattle.job_checks.specs.Edge.{lower, higher}
use Rattle.job_checks.proofs.Edge.{ends_below as both_below}
use Rattle.topology.specs.Edges.{EndPair, no_edge, no_face, between, side_vertex, side_edge, find, edges_of, faces_among, shared_by_three}
use Rattle.topology.proofs.Triangles.{ends}
use Rattle.topology.proofs.Find.{entered, find_at, find_last}
use Rattle.topology.proofs.Edges.{numbered, few_edges, number_kept}
use Rattle.topology.proofs.Faces.{OfSide, listed_face}
use Rattle.topology.proofs.Growth.{other_edge, faces_more, faces_same, faces_none, faces_some, third_face}
use Rattle.std.specs.Prelude.{Ok, Err}
use Rattle.edge_table.specs.Words.{bucket_of, last_in, head_word, triangle_word}
use Rattle.edge_table.specs.Table.{Mesh, TableFits}
use Rattle.edge_table.specs.Sides.{HoldsWords, linked_row, linked_word, Partial, Turned, Falling, faces_so_far, number_so_far, seek}
use Rattle.edge_table.proofs.Buckets.{bucket_below, last_le, last_append, last_new, last_kept}
use Rattle.edge_table.proofs.Holding.{holds_set, holds_fill}
use Rattle.edge_table.proofs.Seeking.{Linked, seek_missing, seek_found}

-- a row is stored field by field
pub stored : (l₀ l₁ l₂ l₃ l₄ l₅ l₆ : List ℕ) (e a b f n next k : ℕ) → next ≡ k → l₁ ≡ set l₀ (words_per_edge * e + edge_low) a → l₂ ≡ set l₁ (words_per_edge * e + edge_high) b → l₃ ≡ set l₂ (words_per_edge * e + edge_first_face) f → l₄ ≡ set l₃ (words_per_edge * e + edge_second_face) n → l₅ ≡ set l₄ (words_per_edge * e + edge_head) 0 → l₆ ≡ set l₅ (words_per_edge * e + edge_scratch) next → l₆ ≡ fill words_per_edge l₀ e 0 (a ∷ b ∷ f ∷ n ∷ 0 ∷ k ∷ [])
unfolding fill
stored l₀ l₁ l₂ l₃ l₄ l₅ l₆ e a b f n next k p e₁ e₂ e₃ e₄ e₅ e₆ = rw (e₆, e₅, e₄, e₃, e₂, e₁, p) refl

-- A slot that has an edge, and one that has none.
module _ (size : ℕ) (es : List EndPair) (faces : ℕ → List ℕ) (e a : ℕ) where
  pub edge_live : e < length es → linked_word size es faces e a ≡ get_or (linked_row size es e (faces e)) a 0
  unfolding linked_word
  edge_live l = rw (lt-ltb e (length es) l) refl

  pub edge_none : length es ≤ e → linked_word size es faces e a ≡ 0
  unfolding linked_word
  edge_none l = rw (le-ltb e (length es) l) refl

-- The row of an edge: its faces count, and of the list the edges up to it.
module _ (size : ℕ) (es : List EndPair) (e : ℕ) where
  row_faces : (fs gs : List ℕ) (a : ℕ) → a ≢ edge_second_face → get_or fs 0 no_face ≡ get_or gs 0 no_face → get_or (linked_row size es e fs) a 0 ≡ get_or (linked_row size es e gs) a 0
  unfolding linked_row
  row_faces fs gs zero n q = refl
  row_faces fs gs (suc zero) n q = refl
  row_faces fs gs (suc (suc zero)) n q = q
  row_faces fs gs (suc (suc (suc zero))) n q = absurd (n refl)
  row_faces fs gs (suc (suc (suc (suc zero)))) n q = refl
  row_faces fs gs (suc (suc (suc (suc (suc a))))) n q = refl

  row_second : (fs : List ℕ) → get_or (linked_row size es e fs) edge_second_face 0 ≡ get_or fs 1 no_face
  unfolding linked_row
  row_second fs = refl

  row_append : (xs : List EndPair) (fs : List ℕ) → e < length es → linked_row size (es ++ xs) e fs ≡ linked_row size es e fs
  unfolding linked_row
  row_append xs fs l = rw (get_or-append es xs no_edge e l, last_append size es (bucket_of size (get_or es e no_edge)) xs e (omega arith)) refl

  row_last : (x : EndPair) (f : ℕ) → e ≡ length es → linked_row size (es ++ (x ∷ [])) e (f ∷ []) ≡ x.low ∷ x.high ∷ f ∷ no_face ∷ 0 ∷ last_in size es (bucket_of size x) (length es) ∷ []
  unfolding linked_row
  row_last x f q = rw (q, get_or-append_seam es x [] no_edge, last_append size es (bucket_of size x) (x ∷ []) (length es) (omega arith)) refl

past : (n j : ℕ) → n ≤ j → (j ≡ n → ⊥) → n < j
past n j l ne = ⊎_elim (λ q. absurd (ne (sym q))) (λ q. q) (eq-or-lt_of_le l)

-- one face, and one more
second_face : (fs : List ℕ) (f : ℕ) → length fs ≡ 1 → (get_or (fs ++ (f ∷ [])) 0 no_face ≡ get_or fs 0 no_face) × ((get_or (fs ++ (f ∷ [])) 1 no_face ≡ f) × (length (fs ++ (f ∷ [])) ≡ 2))
second_face fs f q = (get_or-append fs (f ∷ []) no_face 0 (omega arith), (get_or_at fs f [] no_face 1 q, length-append fs (f ∷ []) ∙ omega arith))

-- A side's edge from its triangle's numbers.
module _ (triangles : List ℕ) (h : ℕ) where
  module _ (a b : ℕ) (ea : a ≡ get_or triangles (3 * (h / 3) + h % 3) 0) (eb : b ≡ get_or triangles (3 * (h / 3) + (h % 3 + 1) % 3) 0) where
    pub side_is : (low high : ℕ) → low ≡ lower a b → high ≡ higher a b → record { low = low; high = high } ≡ side_edge triangles h
    unfolding side_edge between side_vertex
    side_is low high p q =
        let z : (h % 3 + 0) % 3 ≡ h % 3 = omega arith in
        rw (p, q, z, ea, eb) refl

  side_ordered : (side_edge triangles h).low ≤ (side_edge triangles h).high
  unfolding side_edge
  side_ordered = ⊎_elim (λ w. omega arith) (λ w. omega arith) (ends (side_vertex triangles h 0) (side_vertex triangles h 1))

  module _ (v : ℕ) (m : Mesh triangles v) (l : h < length triangles) where
    side_below : ((side_edge triangles h).low < v) × ((side_edge triangles h).high < v)
    unfolding side_edge between side_vertex
    side_below =
        both_below (side_vertex triangles h 0) (side_vertex triangles h 1) v
        (m.there (3 * (h / 3) + (h % 3 + 0) % 3) (omega (arith, m.whole)))
        (m.there (3 * (h / 3) + (h % 3 + 1) % 3) (omega (arith, m.whole)))

    pub ends_below : (low high : ℕ) → record { low = low; high = high } ≡ side_edge triangles h → (low ≤ high) × ((high < v) × ((0 < length triangles) × (length triangles ≤ 393210)))
    ends_below low high q =
        let lo : low ≡ (side_edge triangles h).low = ap (λ (x : EndPair). x.low) q in
        let hi : high ≡ (side_edge triangles h).high = ap (λ (x : EndPair). x.high) q in
        omega (arith, side_ordered, side_below.1, m.whole, m.few_triangles)

-- the numbers of the sides
module _ (triangles : List ℕ) (h k : ℕ) (number : find (side_edge triangles h) (edges_of triangles (suc h)) ≡ k) (words : List ℕ) (fits : words_per_triangle * (h / 3) + h % 3 < length words)
    (holds : HoldsWords words_per_triangle words (triangle_word h (number_so_far triangles h)))
  where
    new_number : triangle_word (suc h) (number_so_far triangles (suc h)) (h / 3) (h % 3) ≡ k
    unfolding triangle_word number_so_far
    new_number =
        let z : 3 * (h / 3) + h % 3 ≡ h = omega arith in
        rw (z, lt-ltb (h % 3) 3 (omega arith), lt-ltb h (suc h) (omega arith)) number

    old_number : (j b : ℕ) → b < words_per_triangle → (j ≡ h / 3 → b ≡ h % 3 → ⊥) → triangle_word (suc h) (number_so_far triangles (suc h)) j b ≡ triangle_word h (number_so_far triangles h) j b
    unfolding triangle_word number_so_far
    old_number j b l ne = go (dec_le 3 b) (dec_le (3 * j + b) h) (dec_le h (3 * j + b)) where
      go : Dec (3 ≤ b) → Dec (3 * j + b ≤ h) → Dec (h ≤ 3 * j + b) → cond (ltb b 3 && ltb (3 * j + b) (suc h)) (find (side_edge triangles (3 * j + b)) (edges_of triangles (suc h))) 0 ≡ cond (ltb b 3 && ltb (3 * j + b) h) (find (side_edge triangles (3 * j + b)) (edges_of triangles h)) 0
      go (yes p) q r = rw (le-ltb b 3 p) refl
      go (no p) (no q) r = rw (le-ltb (3 * j + b) (suc h) (omega arith), le-ltb (3 * j + b) h (omega arith), and-false (ltb b 3)) refl
      go (no p) (yes q) (yes r) = absurd (ne (omega arith) (omega arith))
      go (no p) (yes q) (no r) = rw (lt-ltb b 3 (omega arith), lt-ltb (3 * j + b) (suc h) (omega arith), lt-ltb (3 * j + b) h (omega arith)) (number_kept triangles h (3 * j + b) (omega arith))

    numbers_turn : HoldsWords words_per_triangle (set words (words_per_triangle * (h / 3) + h % 3) k) (triangle_word (suc h) (number_so_far triangles (suc h)))
    numbers_turn =
        holds_set words_per_triangle words (triangle_word h (number_so_far triangles h)) (triangle_word (suc h) (number_so_far triangles (suc h))) holds (h / 3) (h % 3) k (omega arith) fits new_number old_number

-- The buffers after h sides, read.
module _ (triangles : List ℕ) (size h : ℕ) (heads edge triangle : List ℕ) (p : Partial triangles size h heads edge triangle) where
  pub links_fall : Falling edge
  unfolding linked_row
  links_fall e = go (dec_le (length (edges_of triangles h)) e) where
    go : Dec (length (edges_of triangles h) ≤ e) → get_or edge (words_per_edge * e + edge_scratch) 0 ≤ e
    go (yes l) = omega (arith, p.edge_words_held e edge_scratch (omega arith) ∙ edge_none size (edges_of triangles h) (faces_so_far triangles h) e edge_scratch l)
    go (no l) = omega (arith, p.edge_words_held e edge_scratch (omega arith) ∙ edge_live size (edges_of triangles h) (faces_so_far triangles h) e edge_scratch (omega arith), last_le size (edges_of triangles h) (bucket_of size (get_or (edges_of triangles h) e no_edge)) e)

  linked : Linked size (edges_of triangles h) edge
  unfolding linked_row
  linked =
      record {
        low_at_held = λ e l. p.edge_words_held e edge_low (omega arith) ∙ edge_live size (edges_of triangles h) (faces_so_far triangles h) e edge_low l;
        high_at_held = λ e l. p.edge_words_held e edge_high (omega arith) ∙ edge_live size (edges_of triangles h) (faces_so_far triangles h) e edge_high l;
        next_at = λ e l. p.edge_words_held e edge_scratch (omega arith) ∙ edge_live size (edges_of triangles h) (faces_so_far triangles h) e edge_scratch l;
      }

  head_at : (b : ℕ) → get_or heads (words_per_round * b + round_head) 0 ≡ last_in size (edges_of triangles h) b (length (edges_of triangles h))
  unfolding head_word
  head_at b = p.head_words_held b round_head (omega arith)

  second_at : (e : ℕ) → e < length (edges_of triangles h) → get_or edge (words_per_edge * e + edge_second_face) 0 ≡ get_or (faces_so_far triangles h e) 1 no_face
  second_at e l = p.edge_words_held e edge_second_face (omega arith) ∙ (edge_live size (edges_of triangles h) (faces_so_far triangles h) e edge_second_face l ∙ row_second size (edges_of triangles h) e (faces_so_far triangles h e))

  -- the look-up
  module _ (x : EndPair) (bucket head r : ℕ) (eb : bucket ≡ bucket_of size x) (eh : head ≡ get_or heads (words_per_round * bucket + round_head) 0) (er : r ≡ seek edge x.low x.high head head) where
    from_head_lem : head ≡ last_in size (edges_of triangles h) (bucket_of size x) (length (edges_of triangles h))
    from_head_lem = eh ∙ (head_at bucket ∙ ap (λ (b : ℕ). last_in size (edges_of triangles h) b (length (edges_of triangles h))) eb)

    look_missing : r ≡ 0 → length (edges_of triangles h) ≤ find x (edges_of triangles h)
    look_missing = seek_missing size (edges_of triangles h) edge (numbered triangles h) linked x links_fall head r from_head_lem er

    look_found : r ≢ 0 → (find x (edges_of triangles h) < length (edges_of triangles h)) × (r - 1 ≡ find x (edges_of triangles h))
    look_found = seek_found size (edges_of triangles h) edge (numbered triangles h) linked x links_fall head r from_head_lem er

  -- the same for a side whose ends were computed
  module _ (low high bucket head r : ℕ) (q : record { low = low; high = high } ≡ side_edge triangles h) (eb : bucket ≡ bucket_of size (record { low = low; high = high })) (eh : head ≡ get_or heads (words_per_round * bucket + round_head) 0) (er : r ≡ seek edge low high head head) where
    pub side_missing : r ≡ 0 → length (edges_of triangles h) ≤ find (side_edge triangles h) (edges_of triangles h)
    side_missing z = subst (λ (x : EndPair). length (edges_of triangles h) ≤ find x (edges_of triangles h)) q (look_missing (record { low = low; high = high }) bucket head r eb eh er z)

    pub side_found : r ≢ 0 → (find (side_edge triangles h) (edges_of triangles h) < length (edges_of triangles h)) × (r - 1 ≡ find (side_edge triangles h) (edges_of triangles h))
    side_found z = subst (λ (x : EndPair). (find x (edges_of triangles h) < length (edges_of triangles h)) × (r - 1 ≡ find x (edges_of triangles h))) q (look_found (record { low = low; high = high }) bucket head r eb eh er z)

-- the faces among the first n sides of edge j of a list
abbrev faces_in : List ℕ → List EndPair → ℕ → ℕ → List ℕ
faces_in triangles es n j = faces_among triangles (get_or es j no_edge) n

-- The buffers after one more side, whose edges are es.
module _ (triangles : List ℕ) (size h : ℕ) (es : List EndPair) (e : edges_of triangles (suc h) ≡ es) where
  partial : (heads edge triangle : List ℕ) → HoldsWords words_per_round heads (head_word size es) → HoldsWords words_per_edge edge (linked_word size es (faces_in triangles es (suc h))) → HoldsWords words_per_triangle triangle (triangle_word (suc h) (number_so_far triangles (suc h))) → ((j : ℕ) → j < length es → length (faces_in triangles es (suc h) j) ≤ 2) → Partial triangles size (suc h) heads edge triangle
  unfolding faces_so_far
  partial heads edge triangle a b c d =
      record {
        head_words_held = subst (λ (z : List EndPair). HoldsWords words_per_round heads (head_word size z)) (sym e) a;
        edge_words_held = subst (λ (z : List EndPair). HoldsWords words_per_edge edge (linked_word size z (faces_in triangles z (suc h)))) (sym e) b;
        triangle_words_held = c;
        two_faces = subst (λ (z : List EndPair). (j : ℕ) → j < length z → length (faces_in triangles z (suc h) j) ≤ 2) (sym e) d;
      }

module _ (triangles : List ℕ) (size h : ℕ) (heads edge triangle : List ℕ) (m : Mesh triangles 65535) (long : TableFits triangles (length heads) (length edge) (length triangle)) (l : h < length triangles) (all : size ≡ length triangles) (p : Partial triangles size h heads edge triangle) where
  edge_fits : (e : ℕ) → e ≤ length (edges_of triangles h) → words_per_edge * e + words_per_edge ≤ length edge
  edge_fits e k = omega (arith, few_edges triangles h, long.edges_fit)

  number_fits : words_per_triangle * (h / 3) + h % 3 < length triangle
  number_fits = omega (arith, m.whole, long.triangles_fit)

  -- a face is a triangle's number
  face_small : (x : EndPair) (i : ℕ) → i < length (faces_among triangles x h) → get_or (faces_among triangles x h) i no_face ≢ no_face
  face_small x i k q =
      let r : OfSide triangles x h (get_or (faces_among triangles x h) i no_face) = listed_face triangles x h i k in
      omega (arith, r.1.0, r.1.1.1, m.whole, m.few_triangles)

  -- the faces of another edge are as they were
  faces_kept : (j : ℕ) → j < length (edges_of triangles h) → find (side_edge triangles h) (edges_of triangles h) ≢ j → faces_in triangles (edges_of triangles h) (suc h) j ≡ faces_so_far triangles h j
  unfolding faces_so_far
  faces_kept j k ne = faces_same triangles h (get_or (edges_of triangles h) j no_edge) (other_edge (edges_of triangles h) (side_edge triangles h) j (numbered triangles h) k ne)

  -- The edge is there, under number e.
  module _ (e : ℕ) (number : find (side_edge triangles h) (edges_of triangles h) ≡ e) (there : e < length (edges_of triangles h)) where
    edge_is : get_or (edges_of triangles h) e no_edge ≡ side_edge triangles h
    edge_is = subst (λ (k : ℕ). get_or (edges_of triangles h) k no_edge ≡ side_edge triangles h) number (find_at (side_edge triangles h) (edges_of triangles h) (omega arith))

    same_edges : edges_of triangles (suc h) ≡ edges_of triangles h
    unfolding edges_of
    same_edges = ⊎_elim (λ w. w.1) (λ w. absurd (omega (arith, w.0))) (entered (edges_of triangles h) (side_edge triangles h))

    same_number : find (side_edge triangles h) (edges_of triangles (suc h)) ≡ e
    same_number = rw same_edges number

    faces_before : faces_so_far triangles h e ≡ faces_among triangles (side_edge triangles h) h
    unfolding faces_so_far
    faces_before = ap (λ (x : EndPair). faces_among triangles x h) edge_is

    faces_after : faces_in triangles (edges_of triangles h) (suc h) e ≡ faces_so_far triangles h e ++ (h / 3 ∷ [])
    faces_after = ap (λ (x : EndPair). faces_among triangles x (suc h)) edge_is ∙ (faces_more triangles h ∙ ap (λ (fs : List ℕ). fs ++ (h / 3 ∷ [])) (sym faces_before))

    some : 0 < length (faces_so_far triangles h e)
    unfolding faces_so_far
    some = faces_some triangles h e there

    third_turn : get_or edge (words_per_edge * e + edge_second_face) 0 ≢ no_face → shared_by_three triangles ≡ true
    third_turn ne =
        let two : 1 < length (faces_so_far triangles h e) = go (dec_le (length (faces_so_far triangles h e)) 1) in
        third_face triangles h (suc h) l l (rw (faces_more triangles h) (omega (arith, length-append (faces_among triangles (side_edge triangles h) h) (h / 3 ∷ []), ap length faces_before)))
      where
        go : Dec (length (faces_so_far triangles h e) ≤ 1) → 1 < length (faces_so_far triangles h e)
        go (yes k) = absurd (ne (second_at triangles size h heads edge triangle p e there ∙ get_or-eq_default (faces_so_far triangles h e) no_face k))
        go (no k) = omega arith

    module _ (vacant : get_or edge (words_per_edge * e + edge_second_face) 0 ≡ no_face) where
      one_face : length (faces_so_far triangles h e) ≡ 1
      one_face = go (dec_le (length (faces_so_far triangles h e)) 1) where
        go : Dec (length (faces_so_far triangles h e) ≤ 1) → length (faces_so_far triangles h e) ≡ 1
        go (yes k) = omega (arith, some)
        go (no k) =
            let n : 1 < length (faces_among triangles (side_edge triangles h) h) = omega (arith, ap length faces_before) in
            absurd (face_small (side_edge triangles h) 1 n (ap (λ (fs : List ℕ). get_or fs 1 no_face) (sym faces_before) ∙ (sym (second_at triangles size h heads edge triangle p e there) ∙ vacant)))

      second_here : linked_word size (edges_of triangles h) (faces_in triangles (edges_of triangles h) (suc h)) e edge_second_face ≡ h / 3
      second_here =
          edge_live size (edges_of triangles h) (faces_in triangles (edges_of triangles h) (suc h)) e edge_second_face there
          ∙ (row_second size (edges_of triangles h) e (faces_in triangles (edges_of triangles h) (suc h) e)
          ∙ (ap (λ (fs : List ℕ). get_or fs 1 no_face) faces_after ∙ (second_face (faces_so_far triangles h e) (h / 3) one_face).1.0))

      others : (j b : ℕ) → b < words_per_edge → (j ≡ e → b ≡ edge_second_face → ⊥) → linked_word size (edges_of triangles h) (faces_in triangles (edges_of triangles h) (suc h)) j b ≡ linked_word size (edges_of triangles h) (faces_so_far triangles h) j b
      others j b k ne = go (dec_le (length (edges_of triangles h)) j) (ℕ_discrete j e) where
        go : Dec (length (edges_of triangles h) ≤ j) → Dec (j ≡ e) → linked_word size (edges_of triangles h) (faces_in triangles (edges_of triangles h) (suc h)) j b ≡ linked_word size (edges_of triangles h) (faces_so_far triangles h) j b
        go (yes n) q = edge_none size (edges_of triangles h) (faces_in triangles (edges_of triangles h) (suc h)) j b n ∙ sym (edge_none size (edges_of triangles h) (faces_so_far triangles h) j b n)
        go (no n) (yes q) =
            edge_live size (edges_of triangles h) (faces_in triangles (edges_of triangles h) (suc h)) j b (omega arith)
            ∙ (row_faces size (edges_of triangles h) j (faces_in triangles (edges_of triangles h) (suc h) j) (faces_so_far triangles h j) b (ne q)
            (subst (λ (i : ℕ). get_or (faces_in triangles (edges_of triangles h) (suc h) i) 0 no_face ≡ get_or (faces_so_far triangles h i) 0 no_face) (sym q) (ap (λ (fs : List ℕ). get_or fs 0 no_face) faces_after ∙ (second_face (faces_so_far triangles h e) (h / 3) one_face).0))
            ∙ sym (edge_live size (edges_of triangles h) (faces_so_far triangles h) j b (omega arith)))
        go (no n) (no q) =
            edge_live size (edges_of triangles h) (faces_in triangles (edges_of triangles h) (suc h)) j b (omega arith)
            ∙ (ap (λ (fs : List ℕ). get_or (linked_row size (edges_of triangles h) j fs) b 0) (faces_kept j (omega arith) (λ z. q (sym z ∙ number)))
            ∙ sym (edge_live size (edges_of triangles h) (faces_so_far triangles h) j b (omega arith)))

      still_two : (j : ℕ) → j < length (edges_of triangles h) → length (faces_in triangles (edges_of triangles h) (suc h) j) ≤ 2
      still_two j k = go (ℕ_discrete j e) where
        go : Dec (j ≡ e) → length (faces_in triangles (edges_of triangles h) (suc h) j) ≤ 2
        go (yes q) = rw (q, faces_after, (second_face (faces_so_far triangles h e) (h / 3) one_face).1.1) (omega arith)
        go (no q) = rw (faces_kept j k (λ z. q (sym z ∙ number))) (p.two_faces j k)

      found_turn : Partial triangles size (suc h) heads (set edge (words_per_edge * e + edge_second_face) (h / 3)) (set triangle (words_per_triangle * (h / 3) + h % 3) e)
      found_turn =
          partial triangles size h (edges_of triangles h) same_edges heads (set edge (words_per_edge * e + edge_second_face) (h / 3)) (set triangle (words_per_triangle * (h / 3) + h % 3) e)
          p.head_words_held
          (holds_set words_per_edge edge (linked_word size (edges_of triangles h) (faces_so_far triangles h)) (linked_word size (edges_of triangles h) (faces_in triangles (edges_of triangles h) (suc h))) p.edge_words_held e 3 (h / 3) (omega arith) (omega (arith, edge_fits e (omega arith))) second_here others)
          (numbers_turn triangles h e same_number triangle number_fits p.triangle_words_held)
          still_two

  -- The edge is new.
  module _ (fresh : length (edges_of triangles h) ≤ find (side_edge triangles h) (edges_of triangles h)) where
    abbrev grown : List EndPair
    grown = edges_of triangles h ++ (side_edge triangles h ∷ [])

    more_edges : edges_of triangles (suc h) ≡ grown
    unfolding edges_of
    more_edges = ⊎_elim (λ w. absurd (omega (arith, w.0))) (λ w. w.1) (entered (edges_of triangles h) (side_edge triangles h))

    one_more : length grown ≡ suc (length (edges_of triangles h))
    one_more = length-append (edges_of triangles h) (side_edge triangles h ∷ []) ∙ omega arith

    new_last : find (side_edge triangles h) (edges_of triangles (suc h)) ≡ length (edges_of triangles h)
    new_last = rw more_edges (find_last (side_edge triangles h) (edges_of triangles h) fresh)

    -- the heads of the buckets
    head_here : head_word size grown (bucket_of size (side_edge triangles h)) 0 ≡ suc (length (edges_of triangles h))
    unfolding head_word
    head_here = rw one_more (last_new size (edges_of triangles h) (bucket_of size (side_edge triangles h)) (side_edge triangles h) refl)

    heads_kept : (j b : ℕ) → b < 1 → (j ≡ bucket_of size (side_edge triangles h) → b ≡ 0 → ⊥) → head_word size grown j b ≡ head_word size (edges_of triangles h) j b
    unfolding head_word
    heads_kept j b k ne = ap (last_in size grown j) one_more ∙ last_kept size (edges_of triangles h) j (side_edge triangles h) (λ z. ne (sym z) (omega arith))

    bucket_fits : words_per_round * bucket_of size (side_edge triangles h) + round_head < length heads
    bucket_fits = omega (arith, bucket_below size (side_edge triangles h) (omega arith), long.heads_fit)

    -- the faces of the new edge, and of those before it
    new_faces : faces_in triangles grown (suc h) (length (edges_of triangles h)) ≡ h / 3 ∷ []
    new_faces =
        ap (λ (x : EndPair). faces_among triangles x (suc h)) (get_or-append_seam (edges_of triangles h) (side_edge triangles h) [] no_edge)
        ∙ (faces_more triangles h ∙ ap (λ (fs : List ℕ). fs ++ (h / 3 ∷ [])) (faces_none triangles h (side_edge triangles h) fresh))

    old_faces : (j : ℕ) → j < length (edges_of triangles h) → faces_in triangles grown (suc h) j ≡ faces_so_far triangles h j
    old_faces j k =
        ap (λ (x : EndPair). faces_among triangles x (suc h)) (get_or-append (edges_of triangles h) (side_edge triangles h ∷ []) no_edge j k) ∙ faces_kept j k (omega arith)

    new_row : (a : ℕ) → a < words_per_edge → linked_word size grown (faces_in triangles grown (suc h)) (length (edges_of triangles h)) a ≡ get_or ((side_edge triangles h).low ∷ (side_edge triangles h).high ∷ h / 3 ∷ no_face ∷ 0 ∷ last_in size (edges_of triangles h) (bucket_of size (side_edge triangles h)) (length (edges_of triangles h)) ∷ []) a 0
    new_row a k =
        edge_live size grown (faces_in triangles grown (suc h)) (length (edges_of triangles h)) a (omega (arith, one_more))
        ∙ (ap (λ (fs : List ℕ). get_or (linked_row size grown (length (edges_of triangles h)) fs) a 0) new_faces
        ∙ ap (λ (r : List ℕ). get_or r a 0) (row_last size (edges_of triangles h) (length (edges_of triangles h)) (side_edge triangles h) (h / 3) refl))

    rows_kept : (j b : ℕ) → b < words_per_edge → (j ≡ length (edges_of triangles h) → ⊥) → linked_word size grown (faces_in triangles grown (suc h)) j b ≡ linked_word size (edges_of triangles h) (faces_so_far triangles h) j b
    rows_kept j b k ne = go (dec_le (length (edges_of triangles h)) j) where
      go : Dec (length (edges_of triangles h) ≤ j) → linked_word size grown (faces_in triangles grown (suc h)) j b ≡ linked_word size (edges_of triangles h) (faces_so_far triangles h) j b
      go (yes n) =
          let n' : length (edges_of triangles h) < j = past (length (edges_of triangles h)) j n ne in
          edge_none size grown (faces_in triangles grown (suc h)) j b (omega (arith, one_more)) ∙ sym (edge_none size (edges_of triangles h) (faces_so_far triangles h) j b n)
      go (no n) =
          edge_live size grown (faces_in triangles grown (suc h)) j b (omega (arith, one_more))
          ∙ (ap (λ (fs : List ℕ). get_or (linked_row size grown j fs) b 0) (old_faces j (omega arith))
          ∙ (ap (λ (r : List ℕ). get_or r b 0) (row_append size (edges_of triangles h) j (side_edge triangles h ∷ []) (faces_so_far triangles h j) (omega arith))
          ∙ sym (edge_live size (edges_of triangles h) (faces_so_far triangles h) j b (omega arith))))

    all_two : (j : ℕ) → j < length grown → length (faces_in triangles grown (suc h) j) ≤ 2
    all_two j k = go (dec_le (length (edges_of triangles h)) j) where
      go : Dec (length (edges_of triangles h) ≤ j) → length (faces_in triangles grown (suc h) j) ≤ 2
      go (yes n) =
          let q : j ≡ length (edges_of triangles h) = omega (arith, one_more) in
          rw (q, new_faces) (omega arith)
      go (no n) = rw (old_faces j (omega arith)) (p.two_faces j (omega arith))

    new_turn : Partial triangles size (suc h)
        (set heads (words_per_round * bucket_of size (side_edge triangles h) + round_head) (suc (length (edges_of triangles h))))
        (fill words_per_edge edge (length (edges_of triangles h)) 0 ((side_edge triangles h).low ∷ (side_edge triangles h).high ∷ h / 3 ∷ no_face ∷ 0 ∷ last_in size (edges_of triangles h) (bucket_of size (side_edge triangles h)) (length (edges_of triangles h)) ∷ []))
        (set triangle (words_per_triangle * (h / 3) + h % 3) (length (edges_of triangles h)))
    new_turn =
        partial triangles size h grown more_edges _ _ _
        (holds_set words_per_round heads (head_word size (edges_of triangles h)) (head_word size grown) p.head_words_held (bucket_of size (side_edge triangles h)) 0 (suc (length (edges_of triangles h))) (omega arith) bucket_fits head_here heads_kept)
        (holds_fill words_per_edge edge (linked_word size (edges_of triangles h) (faces_so_far triangles h)) (linked_word size grown (faces_in triangles grown (suc h))) p.edge_words_held (length (edges_of triangles h)) _ refl (edge_fits (length (edges_of triangles h)) (omega arith)) new_row rows_kept)
        (numbers_turn triangles h (length (edges_of triangles h)) new_last triangle number_fits p.triangle_words_held)
        all_two

  -- the count fits
  pub few : length (edges_of triangles h) < 393210
  few = omega (arith, few_edges triangles h, m.whole, m.few_triangles)

  -- What the code stores.
  module _ (heads' edge' triangle' : List ℕ) where
    pub new_done : (low high bucket count : ℕ) → length (edges_of triangles h) ≤ find (side_edge triangles h) (edges_of triangles h) → record { low = low; high = high } ≡ side_edge triangles h → bucket ≡ bucket_of size (record { low = low; high = high }) → count ≡ length (edges_of triangles h)
        → heads' ≡ set heads (words_per_round * bucket + round_head) (count + 1) → edge' ≡ fill words_per_edge edge count 0 (low ∷ high ∷ h / 3 ∷ no_face ∷ 0 ∷ get_or heads (words_per_round * bucket + round_head) 0 ∷ []) → triangle' ≡ set triangle (words_per_triangle * (h / 3) + h % 3) count
        → Turned triangles size (h + 1) heads' edge' triangle' (Ok (count + 1))
    unfolding Turned
    new_done low high bucket count fresh q eb ec ev ee et =
        let b : bucket ≡ bucket_of size (side_edge triangles h) = eb ∙ ap (bucket_of size) q in
        let lo : low ≡ (side_edge triangles h).low = ap (λ (x : EndPair). x.low) q in
        let hi : high ≡ (side_edge triangles h).high = ap (λ (x : EndPair). x.high) q in
        let n : length (edges_of triangles (suc h)) ≡ suc (length (edges_of triangles h)) = ap length (more_edges fresh) ∙ one_more fresh in
        rw (add-one h, ev, ee, et, head_at triangles size h heads edge triangle p bucket, b, lo, hi, ec, add-one (length (edges_of triangles h))) (sym n, new_turn fresh)

    pub found_done : (e count : ℕ) → (find (side_edge triangles h) (edges_of triangles h) < length (edges_of triangles h)) × (e ≡ find (side_edge triangles h) (edges_of triangles h)) → count ≡ length (edges_of triangles h) → (s : ℕ) → s ≡ get_or edge (words_per_edge * e + edge_second_face) 0 → s ≡ no_face
        → heads' ≡ heads → edge' ≡ set edge (words_per_edge * e + edge_second_face) (h / 3) → triangle' ≡ set triangle (words_per_triangle * (h / 3) + h % 3) e
        → Turned triangles size (h + 1) heads' edge' triangle' (Ok count)
    unfolding Turned
    found_done e count f ec s es vacant ev ee et =
        let k : e < length (edges_of triangles h) = omega arith in
        rw (add-one h, ev, ee, et) (ec ∙ ap length (sym (same_edges e (sym f.1) k)), found_turn e (sym f.1) k (sym es ∙ vacant))

    pub third_done : (e : ℕ) → (find (side_edge triangles h) (edges_of triangles h) < length (edges_of triangles h)) × (e ≡ find (side_edge triangles h) (edges_of triangles h)) → (s : ℕ) → s ≡ get_or edge (words_per_edge * e + edge_second_face) 0 → s ≢ no_face → Turned triangles size (h + 1) heads' edge' triangle' (Err (record {}))
    unfolding Turned
    third_done e f s es ne = third_turn e (sym f.1) (omega arith) (λ z. ne (es ∙ z))
