-- `better_vectors::same_listed` meets its contract. Assumes nothing.
use borrow.Author.Tests.{eq-eqb, ne_eqb}
use Rattle.better_vectors.specs.Replay.{same_listed}
use native.Mathlib.Omega.{arith}
use Rattle.better_vectors.proofs.same_listed.Goals as goal

pub returns-then-refusal-ne0 : goal.returns-then-refusal-ne0
unfolding same_listed
returns-then-refusal-ne0 c = rw (c.in-Some.is, ne_eqb _ _ c.if-refusal-ne0.true)

pub returns-then-m-stretches : goal.returns-then-m-stretches
unfolding same_listed
returns-then-m-stretches c = rw (c.in-Some.is, eq-eqb _ _ c.if-refusal-ne0.false, ← c.stretches.ensures.0, ne_eqb _ _ c.if-m-stretches.true)

pub other_floats-requires : goal.other_floats-requires
other_floats-requires c = (omega (arith, rw c.in-Some.is at c.requires.1), omega (arith, c.stretches.ensures.0))

pub returns-in-None : goal.returns-in-None
unfolding same_listed
returns-in-None c = rw c.in-None.is

pub returns-else-m-stretches : goal.returns-else-m-stretches
unfolding same_listed
returns-else-m-stretches c = rw (c.in-Some.is, eq-eqb _ _ c.if-refusal-ne0.false, ← c.stretches.ensures.0, eq-eqb _ _ c.if-m-stretches.false, c.other_floats.ensures)
