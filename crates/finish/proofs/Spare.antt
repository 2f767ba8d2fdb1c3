-- The scratch words of edges and the spare words of triangles are zero in a mesh as it is built, and in a field. Assumes nothing.
use Prim.Native.Nat.{ℕ, ◌+◌, ◌*◌, ◌%◌, ◌≤◌, ◌<◌}
use native.Mathlib.Omega.{arith}
use native.Mathlib.Decide.{dec_le}
use mathlib.Core.List.{List}
use mathlib.Core.Path.{◌≡◌, sym, ap, subst, ◌∙◌}
use borrow.Author.Tests.{ne_eqb}
use lib.ListN.{length, get_or, get_or-eq_default}
use lib.Ieee.{Float}
use Rattle.layout.specs.Layout.{words_per_edge, edge_head, edge_scratch, words_per_triangle, triangle_first_entry, triangle_last_entry}
use Rattle.nat_laws.specs.Lists.{list_of}
use Rattle.nat_laws.proofs.Lists.{length_list_of, get_d_list_of}
use Rattle.face_entries.specs.of_mesh.Topology.{MeshBuffers}
use Rattle.face_entries.specs.of_mesh.Held.{Fresh}
use Rattle.contents.specs.of_trim_model.Windows.{Window}
use Rattle.offers.specs.of_trim_state.State.{State, EdgeData}
use Rattle.face_entries.specs.Entries.{FaceEntry, word_with}
use Rattle.finish.specs.Contents.{edge_word_with, FieldBuffers, FieldContents, SpareZero}

pub fresh_spare : (m : MeshBuffers) → Fresh m → SpareZero m
fresh_spare m h = record { scratch = h.scratch; spare = λ f a l k. h.no_entries f a (omega (arith, l)) k }

-- a word that is zero, or past the end
zero_in : (n : ℕ) (g : ℕ → ℕ) (p : ℕ) → g p ≡ 0 → get_or (list_of n g) p 0 ≡ 0
zero_in n g p h = go (dec_le n p) where
  go : Dec (n ≤ p) → get_or (list_of n g) p 0 ≡ 0
  go (yes l) = get_or-eq_default (list_of n g) 0 (subst (λ (m : ℕ). m ≤ p) (sym (length_list_of n g)) l)
  go (no l) = get_d_list_of n g p 0 (omega (arith, l)) ∙ h

scratch_with : (t : List ℕ) (live : ℕ → List Window) (e : ℕ) → get_or t (words_per_edge * e + edge_scratch) 0 ≡ 0 → edge_word_with t live (words_per_edge * e + edge_scratch) ≡ 0
unfolding edge_word_with
scratch_with t live e h = rw (ne_eqb ((words_per_edge * e + edge_scratch) % words_per_edge) edge_head (λ z. omega (arith, z))) h

spare_with : (t : List ℕ) (xs : List FaceEntry) (f a : ℕ) → triangle_last_entry < a → a < words_per_triangle → get_or t (words_per_triangle * f + a) 0 ≡ 0 → word_with t xs (words_per_triangle * f + a) ≡ 0
unfolding word_with
spare_with t xs f a l k h =
    rw (ne_eqb ((words_per_triangle * f + a) % words_per_triangle) triangle_first_entry (λ z. omega (arith, l, k, z)), ne_eqb ((words_per_triangle * f + a) % words_per_triangle) triangle_last_entry (λ z. omega (arith, l, k, z))) h

pub field_spare : (built : MeshBuffers) (mesh : EdgeData) (edges : ℕ) (s : State) (xs : List FaceEntry) (kinds : List ℕ) (coords : List Float) (b b' : FieldBuffers)
    → SpareZero built → FieldContents built mesh edges s xs kinds coords b b' → SpareZero b'.mesh
field_spare built mesh edges s xs kinds coords b b' z c = record {
  scratch = λ e. let p = words_per_edge * e + edge_scratch in
      ap (λ (l : List ℕ). get_or l p 0) c.edge_words_held ∙ zero_in (length built.edge_words_held) (edge_word_with built.edge_words_held s.live) p (scratch_with built.edge_words_held s.live e (z.scratch e));
  spare = λ f a l k. let p = words_per_triangle * f + a in
      ap (λ (t : List ℕ). get_or t p 0) c.triangle_words_held ∙ zero_in (length built.triangle_words_held) (word_with built.triangle_words_held xs) p (spare_with built.triangle_words_held xs f a l k (z.spare f a l k));
}
