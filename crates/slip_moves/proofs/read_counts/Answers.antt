-- `slip_moves::read_counts` meets its contract. Assumes nothing.
use Rattle.slip_moves.proofs.Heads.{refused_small, counts_small, count_refused, count_is}
use mathlib.Core.Path.{◌∙◌}
use native.Mathlib.Omega.{arith}
use Rattle.std.proofs.lemmas.Result.{err_from_is_err_and}
use Rattle.slip_moves.specs.Moves.{counts_at}
use Rattle.slip_moves.proofs.read_counts.Goals as goal

pub returns-in_err-vertices : goal.returns-in_err-vertices
unfolding counts_at
returns-in_err-vertices c =
    let p = err_from_is_err_and c.from_residual.result c.from_residual.ensures.1 in
    (rw (p.1, p.2) (count_refused c.read_number.ensures _ _ c.in_err-vertices.was), rw p.1 (refused_small _ _))

pub returns-in_err-triangles : goal.returns-in_err-triangles
unfolding counts_at
returns-in_err-triangles c =
    let p = err_from_is_err_and c.from_residual-in_err-triangles.result c.from_residual-in_err-triangles.ensures.1 in (
      rw (p.1, p.2) (count_refused c.read_number-2.ensures _ _ c.in_err-triangles.was ∙ count_is c.read_number.ensures _ c.in_ok-vertices.was),
      rw p.1 (refused_small _ _),
    )

pub returns-in_err-pieces : goal.returns-in_err-pieces
unfolding counts_at
returns-in_err-pieces c =
    let p = err_from_is_err_and c.from_residual-in_err-pieces.result c.from_residual-in_err-pieces.ensures.1 in (
      rw (p.1, p.2)
          (count_refused c.read_number-3.ensures _ _ c.in_err-pieces.was ∙ count_is c.read_number-2.ensures _ c.in_ok-triangles.was ∙ count_is c.read_number.ensures _ c.in_ok-vertices.was),
      rw p.1 (refused_small _ _),
    )

pub returns : goal.returns
unfolding counts_at
returns c =
    let one = c.read_number.ensures.small _ _ c.in_ok-vertices.was in
    let two = c.read_number-2.ensures.small _ _ c.in_ok-triangles.was in
    let three = c.read_number-3.ensures.small _ _ c.in_ok-pieces.was in (
      count_is c.read_number-3.ensures _ c.in_ok-pieces.was ∙ count_is c.read_number-2.ensures _ c.in_ok-triangles.was ∙ count_is c.read_number.ensures _ c.in_ok-vertices.was,
      counts_small _ _ _ _ _ one.0 two.0 three.0 (omega (arith, one.1, two.1, three.1, c.requires)),
    )
