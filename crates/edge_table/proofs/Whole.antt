-- The whole mesh: no side entered, and all of them. Assumes nothing.
use Prim.Native.Nat.{ℕ, ◌+◌, ◌*◌}
use mathlib.Core.Path.{◌≡◌, refl, sym, ap, ◌∙◌}
use mathlib.Core.Bool.{true, false, and-false}
use mathlib.Core.List.{List, []}
use native.Mathlib.Omega.{arith}
use borrow.Author.Tests.{le-ltb}
use lib.Dec.{ltb}
use lib.ListN.{length, replicate}
use Rattle.layout.specs.Layout.{words_per_round, words_per_edge, words_per_triangle}
use Rattle.topology.specs.Edges.{edges_of, edges, tri_edge, edge_faces, shared_by_three}
use Rattle.topology.proofs.Growth.{no_third_face}
use Rattle.edge_table.specs.declared.ThirdFace.{ThirdFace}
use Rattle.std.specs.Prelude.{Result, Ok, Err}
use Rattle.edge_table.specs.Words.{last_in, head_word, edge_word, triangle_word}
use Rattle.edge_table.specs.Table.{TableFits, Built, table_of, head_words, edge_words, triangle_words}
use Rattle.edge_table.specs.Sides.{linked_word, without_links, Partial, Turned, faces_so_far, number_so_far}
use Rattle.buffers.proofs.Zeroing.{zero_at}
use Rattle.edge_table.proofs.Holding.{words_are}
use Rattle.edge_table.proofs.Unlinking.{length_unlinked, unlinked}

module _ (triangles : List ℕ) (size : ℕ) where
  no_heads : (b a : ℕ) → head_word size [] b a ≡ 0
  unfolding head_word last_in
  no_heads b a = refl

  no_edges : (faces : ℕ → List ℕ) (e a : ℕ) → linked_word size [] faces e a ≡ 0
  unfolding linked_word
  no_edges faces e a = rw (le-ltb e 0 (omega arith)) refl

  no_numbers : (number : ℕ → ℕ) (f a : ℕ) → triangle_word 0 number f a ≡ 0
  unfolding triangle_word
  no_numbers number f a = rw (le-ltb (3 * f + a) 0 (omega arith), and-false (ltb a 3)) refl

  -- zeroed buffers
  pub none_entered : (heads edge triangle : List ℕ) (n m k : ℕ) → heads ≡ replicate n 0 → edge ≡ replicate m 0 → triangle ≡ replicate k 0 → Partial triangles size 0 heads edge triangle
  unfolding edges_of faces_so_far
  none_entered heads edge triangle n m k ev ee et =
      rw (ev, ee, et)
      record {
        head_words_held = λ i a l. zero_at 0 n (words_per_round * i + a) ∙ sym (no_heads i a);
        edge_words_held = λ i a l. zero_at 0 m (words_per_edge * i + a) ∙ sym (no_edges (faces_so_far triangles 0) i a);
        triangle_words_held = λ i a l. zero_at 0 k (words_per_triangle * i + a) ∙ sym (no_numbers (number_so_far triangles 0) i a);
        two_faces = λ e l. absurd (omega arith);
      }

  pub none_counted : length (edges_of triangles 0) ≡ 0
  unfolding edges_of
  none_counted = refl

  -- an edge had a third face
  pub built_third : (heads₀ edge₀ triangle₀ heads edge triangle : List ℕ) → shared_by_three triangles ≡ true → heads ≡ replicate (length heads₀) 0 → edge ≡ replicate (length edge₀) 0 → triangle ≡ replicate (length triangle₀) 0 → Built triangles (Err (record {})) heads₀ edge₀ triangle₀ heads edge triangle
  unfolding table_of
  built_third heads₀ edge₀ triangle₀ heads edge triangle q eh ee et = record { answer = rw q refl; head_words_held = rw q eh; edge_words_held = rw q ee; triangle_words_held = rw q et }

  -- all sides were entered, and then the links zeroed
  module _ (heads₀ edge₀ triangle₀ heads edge triangle edge' : List ℕ) (lh : length heads ≡ length heads₀) (le : length edge ≡ length edge₀) (lt : length triangle ≡ length triangle₀) (p : Partial triangles (length triangles) (length triangles) heads edge triangle) where
    two : shared_by_three triangles ≡ false
    unfolding edges edge_faces faces_so_far
    two = no_third_face triangles p.two_faces

    pub built_all : (count : ℕ) → count ≡ length (edges_of triangles (length triangles)) → edge' ≡ without_links count edge → Built triangles (Ok count) heads₀ edge₀ triangle₀ heads edge' triangle
    unfolding table_of edges edge_faces tri_edge faces_so_far number_so_far head_words edge_words triangle_words
    built_all count e z =
        let z' : edge' ≡ without_links (length (edges triangles)) edge = z ∙ rw e refl in
        record {
          answer = rw (two, e) refl;
          head_words_held = rw two (words_are (length heads₀) words_per_round (head_word (length triangles) (edges triangles)) heads (omega arith) lh p.head_words_held);
          edge_words_held =
              rw two
              (words_are (length edge₀) words_per_edge (edge_word (edges triangles) (edge_faces triangles)) edge' (omega arith) (ap length z' ∙ (length_unlinked edge (length (edges triangles)) ∙ le))
              (rw z' (unlinked (length triangles) (edges triangles) (edge_faces triangles) edge p.edge_words_held)));
          triangle_words_held = rw two (words_are (length triangle₀) words_per_triangle (triangle_word (length triangles) (tri_edge triangles)) triangle (omega arith) lt p.triangle_words_held);
        }

  -- the answer after all sides
  pub third_turned : (h : ℕ) (heads edge triangle : List ℕ) → shared_by_three triangles ≡ true → Turned triangles size h heads edge triangle (Err (record {}))
  unfolding Turned
  third_turned h heads edge triangle q = q

  pub all_turned : (h k count : ℕ) (heads edge triangle : List ℕ) → h ≡ k → count ≡ length (edges_of triangles h) → Partial triangles size h heads edge triangle → Turned triangles size k heads edge triangle (Ok count)
  unfolding Turned
  all_turned h k count heads edge triangle q e p = rw (← q) (e, p)

  -- What a side's answer says.
  module _ (h : ℕ) (heads edge triangle : List ℕ) (r : Result ℕ ThirdFace) (said : Turned triangles size h heads edge triangle r) where
    pub turned_third : (e : ThirdFace) → r ≡ Err e → shared_by_three triangles ≡ true
    unfolding Turned
    turned_third e q = rw q at said

    pub turned_on : (n : ℕ) → r ≡ Ok n → (n ≡ length (edges_of triangles h)) × Partial triangles size h heads edge triangle
    unfolding Turned
    turned_on n q = rw q at said

-- zeros by how many they are
pub same_zeros : {m n : ℕ} → m ≡ n → replicate {A = ℕ} m 0 ≡ replicate n 0
same_zeros e = ap (λ (k : ℕ). replicate {A = ℕ} k 0) e

pub still_long : (triangles : List ℕ) (a b c a' b' c' : ℕ) → TableFits triangles a b c → a' ≡ a → b' ≡ b → c' ≡ c → TableFits triangles a' b' c'
still_long triangles a b c a' b' c' l p q r = rw (p, q, r) l
