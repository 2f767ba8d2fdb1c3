use mathlib.Core.Path.{ap, ◌∙◌}
use Rattle.float64.specs.Scalar.{min_of}
use Rattle.edge_query.proofs.value_passed.Goals as goal

pub returns : goal.returns
returns c = c.min.ensures ∙ ap (min_of c.args.passed.least) c.value.ensures
