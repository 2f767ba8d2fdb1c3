-- `root_vectors::print_differences` reads within the slice, and ends. Assumes nothing.
use Prim.Native.Nat.{◌+◌, ◌*◌, ◌≤◌}
use lib.ListN.{length}
use native.Mathlib.Omega.{arith}
use Rattle.root_vectors.specs.Replay.{numbers_per_record}
use Rattle.nat_laws.proofs.Ring.{run_within}
use Rattle.root_vectors.proofs.print_differences.Goals as goal

pub holds-requires : goal.holds-requires
holds-requires g c =
    let inside : 8 * (numbers_per_record c.args.f * c.loop-k.k + numbers_per_record c.args.f) ≤ length c.args.s.now = let r = c in
    omega (arith, run_within (numbers_per_record r.args.f) {k = c.loop-k.k} {n = r.records-n.result} (omega arith), r.records-n.ensures.1) in
    inside

pub print_difference-requires : goal.print_difference-requires
print_difference-requires g c =
    let inside : 8 * (numbers_per_record c.args.f * c.loop-k.k + numbers_per_record c.args.f) ≤ length c.args.s.now = let r = c in
    omega (arith, run_within (numbers_per_record r.args.f) {k = c.loop-k.k} {n = r.records-n.result} (omega arith), r.records-n.ensures.1) in
    inside
