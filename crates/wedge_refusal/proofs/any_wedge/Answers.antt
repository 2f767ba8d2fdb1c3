-- `wedge_refusal::any_wedge` meets its contract. The invariant: no end so far meets the refusal. Assumes nothing.
use Prim.Native.Nat.{ℕ, ◌*◌, ◌<◌, ◌≤◌}
use mathlib.Core.Path.{◌≡◌, sym, ◌∙◌}
use mathlib.Core.Bool.{Bool, true, false}
use mathlib.Core.List.{List}
use native.Mathlib.Omega.{arith}
use borrow.Author.Rules.{rules}
use lib.Ieee.{Float}
use lib.ListN.{length}
use Rattle.job_checks.specs.Any.{any_below}
use Rattle.job_checks.proofs.Any.{none_yet, none_more, none_at_all, found}
use Rattle.wedge_refusal.specs.Wedge.{wedge_at, any_wedge_at}
use Rattle.wedge_refusal.proofs.any_wedge.Goals as goal

module _ (v : List Float) (edge_words : List ℕ) (edge_reals : List Float) (triangle_words : List ℕ) (triangleReals : List Float) (vertex_words triangles kinds faces : List ℕ) (coords : List Float) (words : List ℕ) (e : ℕ) where
  abbrev test : ℕ → Bool
  test = wedge_at v edge_words edge_reals triangle_words triangleReals vertex_words triangles kinds faces coords words (length kinds)

  any_found : {r : Bool} → e < 2 * length kinds → r ≡ test e → r ≡ true → true ≡ any_wedge_at v edge_words edge_reals triangle_words triangleReals vertex_words triangles kinds faces coords words
  unfolding any_wedge_at
  any_found l said h = sym (found test e (2 * length kinds) l (sym said ∙ h))

  any_none : e ≤ 2 * length kinds → 2 * length kinds ≤ e → any_below test e ≡ false → false ≡ any_wedge_at v edge_words edge_reals triangle_words triangleReals vertex_words triangles kinds faces coords words
  unfolding any_wedge_at
  any_none l m none = sym (none_at_all test e (2 * length kinds) l m none)

pub overflow_cast-pieces : goal.overflow_cast-pieces
overflow_cast-pieces c = omega (arith, c.requires)

pub loop-e-init : goal.loop-e-init
loop-e-init c =
    let a = c.args in
    (omega arith, none_yet (wedge_at a.vertices.now a.edge_words.now a.edge_reals.now a.triangle_words.now a.triangle_reals.now a.vertex_words.now a.triangles.now a.kinds.now a.faces.now a.coords.now a.words.now (length a.kinds.now)))

pub overflow_mul-e-end : goal.overflow_mul-e-end
overflow_mul-e-end c = record { fits = omega (arith, c.requires) }

pub returns-then-wedge_at : goal.returns-then-wedge_at
returns-then-wedge_at c =
    let a = c.args in
    any_found a.vertices.now a.edge_words.now a.edge_reals.now a.triangle_words.now a.triangle_reals.now a.vertex_words.now a.triangles.now a.kinds.now a.faces.now a.coords.now a.words.now c.loop-e.e c.loop-e-test.true c.wedge_at.ensures c.if-wedge_at.true

pub loop-e-preserved : goal.loop-e-preserved
loop-e-preserved c =
    let a = c.args in
    (search rules, none_more (wedge_at a.vertices.now a.edge_words.now a.edge_reals.now a.triangle_words.now a.triangle_reals.now a.vertex_words.now a.triangles.now a.kinds.now a.faces.now a.coords.now a.words.now (length a.kinds.now)) c.loop-e.e c.loop-e.invariant.1 (sym c.wedge_at.ensures ∙ c.if-wedge_at.false))

pub returns : goal.returns
returns c =
    let a = c.args in
    any_none a.vertices.now a.edge_words.now a.edge_reals.now a.triangle_words.now a.triangle_reals.now a.vertex_words.now a.triangles.now a.kinds.now a.faces.now a.coords.now a.words.now c.loop-e.e c.loop-e.invariant.0 c.loop-e-test.false c.loop-e.invariant.1
