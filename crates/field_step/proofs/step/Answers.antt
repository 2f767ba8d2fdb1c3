-- `field_step::step` meets its contract. Assumes nothing.
use Prim.Native.Nat.{ℕ, ◌≤◌}
use mathlib.Core.Path.{sym, subst, ◌∙◌}
use lib.ListN.{length}
use Rattle.std.proofs.lemmas.Result.{err_from_is_err_and}
use Rattle.windows.specs.Windows.{capacity_of}
use Rattle.spread.specs.of_cut_lists.Buffers.{cut_buffers}
use Rattle.spread.specs.of_trim.Buffers.{slices}
use Rattle.std.specs.declared.result.Result.TheVariants.{Ok, Err}
use Rattle.field_step.proofs.Stepping.{pending_slot, step_idle, step_skip, step_pass}
use Rattle.field_step.proofs.step.Goals as goal

pub turn_of-turn-requires : goal.turn_of-turn-requires
turn_of-turn-requires c =
    let a = c.args in
    let q = c.pop-taken in
    pending_slot a.limit a.n a.vertices.now a.triangles.now a.vertex_words.now a.round.now a.edge_reals.now a.triangle_words.now a.triangle_reals.now a.counts
    (slices a.edge_words.now a.words.now a.reals.now a.keys.now a.events.now a.vertex.now) (cut_buffers a.pts.now a.out.now a.keep.now a.next.now)
    c.requires.0 q.new.words q.new.keys q.new.events q.result q.ensures.0 q.ensures.1.0 q.ensures.1.1 c.in-Some.first.event c.in-Some.first.queued c.in-Some.first.pending c.in-Some.is q.auto.words

pub spread-requires : goal.spread-requires
spread-requires c =
    let a = c.args in
    (subst (λ (k : ℕ). a.counts.made ≤ capacity_of k (length a.reals.now)) (sym c.pop-taken.auto.words) c.requires.0, c.requires.1)

pub shape_of-words-in-None : goal.shape_of-words-in-None
shape_of-words-in-None c = c.pop-taken.auto.words

pub shape_of-keys-in-None : goal.shape_of-keys-in-None
shape_of-keys-in-None c = c.pop-taken.auto.keys

pub shape_of-events-in-None : goal.shape_of-events-in-None
shape_of-events-in-None c = c.pop-taken.auto.events

pub returns-in-None : goal.returns-in-None
returns-in-None c =
    let a = c.args in
    let q = c.pop-taken in
    step_idle a.limit a.n a.vertices.now a.triangles.now a.vertex_words.now a.round.now a.edge_reals.now a.triangle_words.now a.triangle_reals.now a.counts
    (slices a.edge_words.now a.words.now a.reals.now a.keys.now a.events.now a.vertex.now) (cut_buffers a.pts.now a.out.now a.keep.now a.next.now)
    c.requires.0 q.new.words q.new.keys q.new.events q.result q.ensures.0 q.ensures.1.0 q.ensures.1.1 c.in-None.is

pub shape_of-words-in-None-turn : goal.shape_of-words-in-None-turn
shape_of-words-in-None-turn c =
    c.pop-taken.auto.words

pub shape_of-keys-in-None-turn : goal.shape_of-keys-in-None-turn
shape_of-keys-in-None-turn c =
    c.pop-taken.auto.keys

pub shape_of-events-in-None-turn : goal.shape_of-events-in-None-turn
shape_of-events-in-None-turn c =
    c.pop-taken.auto.events

pub returns-in-None-turn : goal.returns-in-None-turn
returns-in-None-turn c =
    let a = c.args in
    let q = c.pop-taken in
    let turn = c.turn_of-turn in
    step_skip a.limit a.n a.vertices.now a.triangles.now a.vertex_words.now a.round.now a.edge_reals.now a.triangle_words.now a.triangle_reals.now a.counts
    (slices a.edge_words.now a.words.now a.reals.now a.keys.now a.events.now a.vertex.now) (cut_buffers a.pts.now a.out.now a.keep.now a.next.now)
    c.requires.0 q.new.words q.new.keys q.new.events q.result q.ensures.0 q.ensures.1.0 q.ensures.1.1 c.in-Some.first.event c.in-Some.first.queued c.in-Some.first.pending c.in-Some.is turn.result turn.ensures c.in-None-turn.is

pub shape_of-edge_words : goal.shape_of-edge_words
shape_of-edge_words c =
    c.spread.auto.edge_words

pub shape_of-words-in_ok-added-in-Some-turn : goal.shape_of-words-in_ok-added-in-Some-turn
shape_of-words-in_ok-added-in-Some-turn c =
    c.spread.auto.words ∙ c.pop-taken.auto.words

pub shape_of-reals-in_ok-added-in-Some-turn : goal.shape_of-reals-in_ok-added-in-Some-turn
shape_of-reals-in_ok-added-in-Some-turn c =
    c.spread.auto.reals

pub shape_of-keys-in_ok-added-in-Some-turn : goal.shape_of-keys-in_ok-added-in-Some-turn
shape_of-keys-in_ok-added-in-Some-turn c =
    c.spread.auto.keys ∙ c.pop-taken.auto.keys

pub shape_of-events-in_ok-added-in-Some-turn : goal.shape_of-events-in_ok-added-in-Some-turn
shape_of-events-in_ok-added-in-Some-turn c =
    c.spread.auto.events ∙ c.pop-taken.auto.events

pub shape_of-vertex-in_ok-added-in-Some-turn : goal.shape_of-vertex-in_ok-added-in-Some-turn
shape_of-vertex-in_ok-added-in-Some-turn c =
    c.spread.auto.vertex ∙ c.mark.auto.vertex

pub shape_of-pts : goal.shape_of-pts
shape_of-pts c =
    c.spread.auto.pts

pub shape_of-out : goal.shape_of-out
shape_of-out c =
    c.spread.auto.out

pub shape_of-keep : goal.shape_of-keep
shape_of-keep c =
    c.spread.auto.keep

pub shape_of-next : goal.shape_of-next
shape_of-next c =
    c.spread.auto.next

pub shape_of-edge_words-in_err-added-in-Some-turn : goal.shape_of-edge_words-in_err-added-in-Some-turn
shape_of-edge_words-in_err-added-in-Some-turn c =
    c.spread.auto.edge_words

pub shape_of-words-in_err-added-in-Some-turn : goal.shape_of-words-in_err-added-in-Some-turn
shape_of-words-in_err-added-in-Some-turn c =
    c.spread.auto.words ∙ c.pop-taken.auto.words

pub shape_of-reals-in_err-added-in-Some-turn : goal.shape_of-reals-in_err-added-in-Some-turn
shape_of-reals-in_err-added-in-Some-turn c =
    c.spread.auto.reals

pub shape_of-keys-in_err-added-in-Some-turn : goal.shape_of-keys-in_err-added-in-Some-turn
shape_of-keys-in_err-added-in-Some-turn c =
    c.spread.auto.keys ∙ c.pop-taken.auto.keys

pub shape_of-events-in_err-added-in-Some-turn : goal.shape_of-events-in_err-added-in-Some-turn
shape_of-events-in_err-added-in-Some-turn c =
    c.spread.auto.events ∙ c.pop-taken.auto.events

pub shape_of-vertex-in_err-added-in-Some-turn : goal.shape_of-vertex-in_err-added-in-Some-turn
shape_of-vertex-in_err-added-in-Some-turn c =
    c.spread.auto.vertex ∙ c.mark.auto.vertex

pub shape_of-pts-in_err-added-in-Some-turn : goal.shape_of-pts-in_err-added-in-Some-turn
shape_of-pts-in_err-added-in-Some-turn c =
    c.spread.auto.pts

pub shape_of-out-in_err-added-in-Some-turn : goal.shape_of-out-in_err-added-in-Some-turn
shape_of-out-in_err-added-in-Some-turn c =
    c.spread.auto.out

pub shape_of-keep-in_err-added-in-Some-turn : goal.shape_of-keep-in_err-added-in-Some-turn
shape_of-keep-in_err-added-in-Some-turn c =
    c.spread.auto.keep

pub shape_of-next-in_err-added-in-Some-turn : goal.shape_of-next-in_err-added-in-Some-turn
shape_of-next-in_err-added-in-Some-turn c =
    c.spread.auto.next

pub returns-in_err-added-in-Some-turn : goal.returns-in_err-added-in-Some-turn
returns-in_err-added-in-Some-turn c =
    let a = c.args in
    let q = c.pop-taken in
    let turn = c.turn_of-turn in
    let m = c.mark in
    let r = c.spread in
    let p = err_from_is_err_and c.from_residual.result c.from_residual.ensures.1 in
    rw (p.1, p.2) (step_pass a.limit a.n a.vertices.now a.triangles.now a.vertex_words.now a.round.now a.edge_reals.now a.triangle_words.now a.triangle_reals.now a.counts
    (slices a.edge_words.now a.words.now a.reals.now a.keys.now a.events.now a.vertex.now) (cut_buffers a.pts.now a.out.now a.keep.now a.next.now)
    c.requires.0 q.new.words q.new.keys q.new.events q.result q.ensures.0 q.ensures.1.0 q.ensures.1.1 c.in-Some.first.event c.in-Some.first.queued c.in-Some.first.pending c.in-Some.is turn.result turn.ensures
    c.in-Some-turn.s c.in-Some-turn.is m.new.vertex m.ensures q.auto.words (Err c.in_err-added-in-Some-turn.field-0.0) (slices r.new.edge_words r.new.words r.new.reals r.new.keys r.new.events r.new.vertex) c.in_err-added-in-Some-turn.ensures)

pub returns-in_ok-added-in-Some-turn : goal.returns-in_ok-added-in-Some-turn
returns-in_ok-added-in-Some-turn c =
    let a = c.args in
    let q = c.pop-taken in
    let turn = c.turn_of-turn in
    let m = c.mark in
    let r = c.spread in
    step_pass a.limit a.n a.vertices.now a.triangles.now a.vertex_words.now a.round.now a.edge_reals.now a.triangle_words.now a.triangle_reals.now a.counts
    (slices a.edge_words.now a.words.now a.reals.now a.keys.now a.events.now a.vertex.now) (cut_buffers a.pts.now a.out.now a.keep.now a.next.now)
    c.requires.0 q.new.words q.new.keys q.new.events q.result q.ensures.0 q.ensures.1.0 q.ensures.1.1 c.in-Some.first.event c.in-Some.first.queued c.in-Some.first.pending c.in-Some.is turn.result turn.ensures
    c.in-Some-turn.s c.in-Some-turn.is m.new.vertex m.ensures q.auto.words (Ok c.in_ok-added-in-Some-turn.added) (slices r.new.edge_words r.new.words r.new.reals r.new.keys r.new.events r.new.vertex) c.in_ok-added-in-Some-turn.ensures
