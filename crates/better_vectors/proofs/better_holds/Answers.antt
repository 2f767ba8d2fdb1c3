-- `better_vectors::better_holds` meets its contract. Assumes nothing.
use lib.ListN.{length}
use Rattle.better_vectors.proofs.Laws.{answer_within}
use native.Mathlib.Omega.{arith}
use Rattle.better.proofs.Stored.{answers_of}
use Rattle.better_vectors.proofs.better_holds.Goals as goal

pub same_listed-requires : goal.same_listed-requires
same_listed-requires c = (
  omega arith,
  answer_within c.better-listed.result c.src_from-p.result c.src_from-q.result c.float_from-lo.result c.float_from-hi.result (length c.args.pts.now) c.better-listed.new.out (answers_of _ _ _ _ _ _ c.better-listed.ensures.out_after),
)

pub returns : goal.returns
returns c =
    record {
      answer = c.better-listed.result;
      right = rw (c.float_from-hi.ensures, c.float_from-lo.ensures, c.src_from-q.ensures, c.src_from-p.ensures) at (answers_of _ _ _ _ _ _ c.better-listed.ensures.out_after);
      decided = c.same_listed.ensures;
    }
