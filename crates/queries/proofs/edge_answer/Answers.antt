use mathlib.Core.Path.{sym, subst}
use Rattle.chains.specs.Chains.{links}
use Rattle.edge_query.specs.declared.Cursor.{Cursor}
use Rattle.edge_query.specs.Resume.{Resumes}
use Rattle.edge_query.proofs.Resume.{head_resumes}
use Rattle.queries.proofs.edge_answer.Goals as goal

pub edge_answer_from-resumed-requires : goal.edge_answer_from-resumed-requires
edge_answer_from-resumed-requires c =
    let a = c.args in
    let b = links a.edge_words.now a.words.now in
    (c.requires.0, (c.requires.1, subst (λ (y : Cursor). Resumes a.n.windows b a.reals.now y) (sym c.head_cursor-head.ensures) (head_resumes a.n.windows b a.reals.now a.e)))

pub returns : goal.returns
returns c = c.edge_answer_from-resumed.ensures.answer_value
