-- What a field that 20 passed has, and the ways through a query. Assumes nothing.
use Prim.Native.Nat.{ℕ, min, ◌≤◌}
use native.Mathlib.Omega.{arith}
use mathlib.Core.Bool.{Bool, true, false, cond, ◌||◌}
use mathlib.Core.Path.{◌≡◌, refl, sym, ap, ◌∙◌}
use borrow.Author.Tests.{ltb-false}
use lib.Dec.{ltb}
use lib.ListN.{length}
use Rattle.layout.specs.Layout.{words_per_edge, reals_per_edge, words_per_triangle, reals_per_triangle, reals_per_vertex}
use Rattle.buffers.specs.Slots.{slots_of}
use Rattle.windows.specs.Windows.{capacity_of}
use Rattle.computed.specs.declared.Field.{Field}
use Rattle.field_check.specs.FieldCheck.{JobSlices, FieldSlices, too_few_slots, counts_differ, meets_refusal, points_outside, lists_unsound, field_unsound}

pub left_none : (a b : Bool) → (a || b) ≡ false → a ≡ false
left_none false b e = refl
left_none true b e = e

pub right_none : (a b : Bool) → (a || b) ≡ false → b ≡ false
right_none false b e = e
right_none true b e = absurd (let z : ◌≡◌ {A = Bool} true false = e in (let y : ◌≡◌ {A = ℕ} 0 1 = cc in omega arith))

-- slots for its edges and its windows
pub enough : (n : Field) (j : JobSlices) (b : FieldSlices) → field_unsound n j b ≡ false → (n.edges ≤ slots_of (length b.edge_words_held) words_per_edge) × (n.windows ≤ capacity_of (length b.words) (length b.reals))
unfolding field_unsound too_few_slots
enough n j b e =
    let es : ℕ = min (slots_of (length b.edge_words_held) words_per_edge) (slots_of (length b.edge_reals_held) reals_per_edge) in
    let ts : ℕ = min (slots_of (length b.triangle_words_held) words_per_triangle) (slots_of (length b.triangle_reals) reals_per_triangle) in
    let vs : ℕ = slots_of (length b.vertex) reals_per_vertex in
    let ws : ℕ = capacity_of (length b.words) (length b.reals) in
    let few : too_few_slots n b ≡ false = left_none (too_few_slots n b) (counts_differ n j || (meets_refusal j || (points_outside n b || lists_unsound n b))) e in
    let past : (ltb ts n.triangles || (ltb vs n.vertices || ltb ws n.windows)) ≡ false = right_none (ltb es n.edges) (ltb ts n.triangles || (ltb vs n.vertices || ltb ws n.windows)) few in
    let edges : n.edges ≤ es = ltb-false es n.edges (left_none (ltb es n.edges) (ltb ts n.triangles || (ltb vs n.vertices || ltb ws n.windows)) few) in
    let windows : n.windows ≤ ws = ltb-false ws n.windows (right_none (ltb vs n.vertices) (ltb ws n.windows) (right_none (ltb ts n.triangles) (ltb vs n.vertices || ltb ws n.windows) past)) in
    (omega (arith, edges), windows)

-- ---- a test and what comes after it
module _ {A : Type 0} (b : Bool) (x y : A) where
  pub taken : b ≡ true → x ≡ cond b x y
  taken h = sym (ap (λ (c : Bool). cond c x y) h)

  pub left : (r : A) → b ≡ false → r ≡ y → r ≡ cond b x y
  left r h e = e ∙ sym (ap (λ (c : Bool). cond c x y) h)
