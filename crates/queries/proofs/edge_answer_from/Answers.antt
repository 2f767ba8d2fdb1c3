use mathlib.Core.Path.{sym, ap, ◌∙◌}
use borrow.Author.Tests.{le-leb, lt-leb}
use Rattle.queries.specs.Queries.{edge_answer, place_outside}
use native.Mathlib.Omega.{arith}
use lib.Ieee.{Float}
use Rattle.windows.specs.declared.Edge.{Edge}
use Rattle.chains.specs.Chains.{links}
use Rattle.edge_query.specs.EdgeDistance.{edge_distance_in}
use Rattle.std.specs.declared.result.Result.TheVariants.{Ok}
use Rattle.queries.proofs.Checked.{taken, left}
use Rattle.queries.proofs.edge_answer_from.Goals as goal

pub distance_from-resumed-requires : goal.distance_from-resumed-requires
distance_from-resumed-requires c =
    (c.requires.1.0, (omega (arith, c.requires.0, c.if-n-e.false, ap (λ (k : Edge). k.id.0) c.edge-edge.ensures), c.requires.1.1))

pub returns-then-n-e : goal.returns-then-n-e
unfolding edge_answer
returns-then-n-e c = record { answer_value = taken _ _ _ (le-leb _ _ c.if-n-e.true); resumes = c.requires.1.1 }

pub returns-then-place_outside : goal.returns-then-place_outside
unfolding edge_answer
returns-then-place_outside c =
    let a = c.args in record {
      answer_value = left _ _ _ _ (lt-leb _ _ c.if-n-e.false)
          (taken _ _ _ (ap (λ (l : Float). place_outside l a.x) (sym c.length.ensures) ∙ sym c.place_outside.ensures ∙ c.if-place_outside.true));
      resumes = c.requires.1.1;
    }

pub returns : goal.returns
unfolding edge_answer
returns c =
    let a = c.args in record {
      answer_value = left _ _ _ _ (lt-leb _ _ c.if-n-e.false)
          (left _ _ _ _ (ap (λ (l : Float). place_outside l a.x) (sym c.length.ensures) ∙ sym c.place_outside.ensures ∙ c.if-place_outside.false)
          (ap Ok (c.distance_from-resumed.ensures.distance_value ∙ ap (λ (k : Edge). edge_distance_in a.vertex.now (links a.edge_words.now a.words.now) a.reals.now a.n.windows k a.x) c.edge-edge.ensures)));
      resumes = c.distance_from-resumed.ensures.resumes;
    }
