use native.Mathlib.Omega.{arith}
use Rattle.pop.proofs.Calls.{claims_far, claims_dead, claims_idle, claims_done}
use Rattle.pop.proofs.claim.Goals as goal

pub returns-then-has_flag-2 : goal.returns-then-has_flag-2
returns-then-has_flag-2 c =
    let a = c.args in
    claims_done a.made a.words.now a.id.0 (omega (arith, c.if-id-made.true)) c.read_u32-flags.result c.read_u32-flags.ensures
    c.has_flag.result c.has_flag.ensures c.if-has_flag.true c.has_flag-then-has_flag.result c.has_flag-then-has_flag.ensures c.if-has_flag-2.true
    _ c.store_flags.ensures

pub returns-then-has_flag : goal.returns-then-has_flag
returns-then-has_flag c =
    let a = c.args in
    claims_idle a.made a.words.now a.id.0 (omega (arith, c.if-id-made.true)) c.read_u32-flags.result c.read_u32-flags.ensures
    c.has_flag.result c.has_flag.ensures c.if-has_flag.true c.has_flag-then-has_flag.result c.has_flag-then-has_flag.ensures c.if-has_flag-2.false

pub returns-then-id-made : goal.returns-then-id-made
returns-then-id-made c =
    let a = c.args in
    claims_dead a.made a.words.now a.id.0 (omega (arith, c.if-id-made.true)) c.read_u32-flags.result c.read_u32-flags.ensures
    c.has_flag.result c.has_flag.ensures c.if-has_flag.false

pub returns : goal.returns
returns c = let a = c.args in claims_far a.made a.words.now a.id.0 (omega (arith, c.if-id-made.false))
