-- `slip_write::put_mesh` meets its contract. Assumes nothing.
use Rattle.slip_write.specs.Write.{mesh_bytes}
use Rattle.text_out.proofs.Puts.{puts_then}
use native.Mathlib.Omega.{arith}
use Rattle.slip_write.proofs.put_mesh.Goals as goal

pub returns : goal.returns
unfolding mesh_bytes
returns c =
    let v = c.put_doubles-a.ensures in
    let t = c.put_numbers-b.ensures in
    let f = c.put_text.ensures in
    (puts_then (puts_then v.0 t.0) f, omega (arith, v.1, t.1, f.ends, c.requires.0, c.requires.1.0, c.requires.1.1.0, c.requires.1.1.1))
