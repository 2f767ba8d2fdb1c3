use mathlib.Core.Path.{◌∙◌}
use native.Mathlib.Omega.{arith}
use Rattle.actions.specs.Actions.{distance_of}
use Rattle.chains.specs.Chains.{links}
use Rattle.last_pass.specs.Buffers.{chain_behind}
use Rattle.last_pass.specs.of_face_distance.Entries.{through_ends}
use Rattle.edge_query.specs.Resume.{from_head}
use Rattle.edge_query.proofs.Forward.{forward_is}
use Rattle.edge_query.proofs.Resume.{for_all}
use Rattle.edge_query.proofs.distance_from.Goals as goal

pub least_on_chain-requires : goal.least_on_chain-requires
least_on_chain-requires c =
    let a = c.args in
    let r = for_all a.made (links a.edge_words.now a.words.now) a.reals.now a.cursor c.cursor_for-from.result a.e.id a.x c.cursor_for-from.ensures c.requires.1.1 in
    (c.requires.0, (omega (arith, r.0, c.requires.1.0), r.1))

pub returns : goal.returns
returns c =
    let a = c.args in
    let b = links a.edge_words.now a.words.now in
    let r = for_all a.made b a.reals.now a.cursor c.cursor_for-from.result a.e.id a.x c.cursor_for-from.ensures c.requires.1.1 in record {
      distance_value = c.least_on_chain.ensures.distance_value
          ∙ (λ i. from_head a.made b a.reals.now (r.0 i) a.x ((c.through_ends-d.ensures ∙ (λ j. through_ends (c.distance-da.ensures j) (c.distance-db.ensures j) a.e.len a.x)) i))
          ∙ forward_is a.words.now a.reals.now a.x (distance_of a.vertex.now a.e.a.0) (distance_of a.vertex.now a.e.b.0) a.e.len (chain_behind a.made b a.e.id.0 a.made 0);
      resumes = c.least_on_chain.ensures.resumes;
    }
