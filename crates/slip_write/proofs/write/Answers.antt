-- `slip_write::write` meets its contract. Assumes nothing.
use Rattle.slip_write.proofs.Room.{in_bounds, has_oversized, too_short, done}
use Rattle.job_checks.specs.Job.{job}
use lib.ListN.{length}
use mathlib.Core.Path.{sym, ◌∙◌}
use Rattle.slip_write.proofs.write.Goals as goal

pub returns-then-is_oversized : goal.returns-then-is_oversized
returns-then-is_oversized c =
    let a = c.args in
    has_oversized (job a.vertices.now a.triangles.now a.flags.now a.kinds.now a.faces.now a.coords.now a.limit) a.out.now (sym c.is_oversized.ensures ∙ c.if-is_oversized.true)

pub put_slip-n-requires : goal.put_slip-n-requires
put_slip-n-requires c =
    let a = c.args in
    in_bounds (length a.vertices.now) (length a.triangles.now) (length a.flags.now) (length a.kinds.now) (sym c.is_oversized.ensures ∙ c.if-is_oversized.false)

pub returns-then-out-n : goal.returns-then-out-n
returns-then-out-n c =
    let a = c.args in
    too_short (job a.vertices.now a.triangles.now a.flags.now a.kinds.now a.faces.now a.coords.now a.limit) a.out.now c.put_slip-n.result (sym c.is_oversized.ensures ∙ c.if-is_oversized.false) c.put_slip-n.ensures.ends c.if-out-n.true

pub put_slip-requires : goal.put_slip-requires
put_slip-requires c =
    let a = c.args in
    in_bounds (length a.vertices.now) (length a.triangles.now) (length a.flags.now) (length a.kinds.now) (sym c.is_oversized.ensures ∙ c.if-is_oversized.false)

pub returns : goal.returns
returns c =
    let a = c.args in
    done (job a.vertices.now a.triangles.now a.flags.now a.kinds.now a.faces.now a.coords.now a.limit) a.out.now c.put_slip-n.result (sym c.is_oversized.ensures ∙ c.if-is_oversized.false) c.put_slip-n.ensures.ends _ _ c.if-out-n.false c.put_slip.ensures
