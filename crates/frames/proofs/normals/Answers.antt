use Prim.Native.Nat.{◌*◌, ◌/◌}
use native.Mathlib.Omega.{arith}
use lib.ListN.{length}
use Rattle.layout.specs.Layout.{reals_per_normal}
use Rattle.frames.proofs.Rows.{rows_done}
use Rattle.frames.proofs.Turns.{normals_made}
use Rattle.frames.proofs.normals.Goals as goal

pub returns : goal.returns
returns c =
    let n = length c.args.triangles.now in
    let p = c.requires in
    normals_made _ _ _ _ n _ _ _ _ p.1.1
    (rows_done reals_per_normal _ _ _ (3 * (n / 3)) n c.perpendiculars.ensures (omega arith) (omega (arith, p.1.0)))
    (rows_done reals_per_normal _ _ _ (3 * (n / 3)) n c.units.ensures (omega arith) (omega (arith, p.1.0)))
    c.zero_f64_from.ensures
