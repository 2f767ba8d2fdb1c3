use mathlib.Core.Path.{ap, ◌∙◌}
use lib.Ieee.{Float}
use Rattle.edge_query.proofs.Forward.{no_number, past_short, past_long}
use Rattle.edge_query.proofs.past.Goals as goal

pub returns-then-read_f64-x : goal.returns-then-read_f64-x
returns-then-read_f64-x c =
    let a = c.args in
    ap (λ (d : Float). record { least = d; short = a.link }) no_number
    ∙ past_short a.words.now a.reals.now a.x a.passed a.link c.requires.0 c.read_f64.result c.read_f64.ensures c.if-read_f64-x.true

pub returns : goal.returns
returns c =
    let a = c.args in
    past_long a.words.now a.reals.now a.x a.passed a.link c.requires.0 c.read_f64.result c.read_f64.ensures c.if-read_f64-x.false c.value.result c.min.result c.value.ensures c.min.ensures
