-- `trim::admit` meets its contract. Assumes nothing.
use mathlib.Core.Path.{◌∙◌}
use native.Mathlib.Omega.{arith}
use lib.ListN.{length}
use Rattle.std.proofs.lemmas.Result.{err_from_is_err_and}
use Rattle.heap.specs.Queue.{queue}
use Rattle.chains.specs.Chains.{links}
use Rattle.trim_visit.specs.of_trim_split.Running.{made_end}
use Rattle.trim_visit.proofs.laws_of_trim_split.Loops.{window_slices}
use Rattle.trim.proofs.Calls.{admit_full, admit_stopped, admit_seated, seat_ready, kept_fit, bounded_in}
use Rattle.trim.proofs.admit.Goals as goal

pub returns-then-pts-eq0 : goal.returns-then-pts-eq0
returns-then-pts-eq0 c =
    let a = c.args in
    (tt, admit_full (length a.pts.now) a.limit a.vertex_words.now a.e a.w a.counts.made a.counts.queued (window_slices a.edges.now a.words.now a.reals.now a.keys.now a.events.now) a.vertex.now a.tiny c.if-pts-eq0.true c.requires.1.1)

pub visits-requires : goal.visits-requires
visits-requires c =
    let pass-front = c.pass_front-before in (
      record { fits = c.requires.0.fits; linked = pass-front.ensures.made; edge = omega (arith, c.requires.0.edge, pass-front.auto.edges) },
      (
        record { outs = c.requires.1.0.outs; keeps = omega (arith, c.requires.1.0.keeps, c.whole.auto.keep); nexts = c.requires.1.0.nexts },
        omega (arith, c.if-pts-eq0.false),
      ),
    )

pub keep_parts-requires : goal.keep_parts-requires
keep_parts-requires c =
    let visits = c.visits in
    let pass-front = c.pass_front-before in
    let a = c.args in
    let b = c.in_ok-visited.ensures.0 in (
      seat_ready a.e.id.0 a.counts.made pass-front.result c.in_ok-visited.visited.counts.made c.in_ok-visited.visited.last c.in_ok-visited.visited.kept (length a.pts.now)
          (window_slices a.edges.now a.words.now a.reals.now a.keys.now a.events.now)
          (window_slices visits.new.edges visits.new.words visits.new.reals visits.new.keys visits.new.events)
          (record {
            edges = visits.auto.edges ∙ pass-front.auto.edges;
            words = visits.auto.words;
            reals = visits.auto.reals;
            keys = visits.auto.keys;
            events = visits.auto.events;
          }) c.requires.0 pass-front.ensures.made b,
      (
        kept_fit (length a.pts.now) c.in_ok-visited.visited.kept a.out.now a.keep.now a.next.now
            visits.new.keep c.requires.1.0 (visits.auto.keep ∙ c.whole.auto.keep) b.1.1.0,
        c.requires.1.1,
      ),
    )

pub returns-in_err-visited : goal.returns-in_err-visited
returns-in_err-visited c =
    let visits = c.visits in
    let pass-front = c.pass_front-before in
    let whole = c.whole in
    let a = c.args in
    let p = err_from_is_err_and c.from_residual.result c.from_residual.ensures.1 in
    rw (p.1, p.2) (
      tt,
      admit_stopped (length a.pts.now) a.limit a.vertex_words.now a.e a.w a.counts.made a.counts.queued
          (window_slices a.edges.now a.words.now a.reals.now a.keys.now a.events.now) a.vertex.now a.tiny c.if-pts-eq0.false pass-front.result pass-front.new.edges
          pass-front.ensures whole.new.keep whole.ensures c.in_err-visited.field-0.0 visits.new.keep c.in_err-visited.ensures.1 c.requires.1.1,
    )

pub returns : goal.returns
returns c =
    let keep-parts = c.keep_parts in
    let visits = c.visits in
    let pass-front = c.pass_front-before in
    let whole = c.whole in
    let a = c.args in
    let the-slices-2 = window_slices a.edges.now a.words.now a.reals.now a.keys.now a.events.now in
    let the-slices = window_slices visits.new.edges visits.new.words visits.new.reals visits.new.keys visits.new.events in (
      bounded_in the-slices-2 the-slices keep-parts.result
          (record {
            edges = visits.auto.edges ∙ pass-front.auto.edges;
            words = visits.auto.words;
            reals = visits.auto.reals;
            keys = visits.auto.keys;
            events = visits.auto.events;
          }) keep-parts.ensures.0,
      admit_seated (length a.pts.now) a.limit a.vertex_words.now a.e a.w a.counts.made a.counts.queued the-slices-2 a.vertex.now
          a.tiny c.if-pts-eq0.false pass-front.result pass-front.new.edges pass-front.ensures whole.new.keep whole.ensures c.in_ok-visited.visited.counts c.in_ok-visited.visited.last
          c.in_ok-visited.visited.kept the-slices visits.new.keep
          (record {
            edges = visits.auto.edges ∙ pass-front.auto.edges;
            words = visits.auto.words;
            reals = visits.auto.reals;
            keys = visits.auto.keys;
            events = visits.auto.events;
          }) c.in_ok-visited.ensures.1 (made_end keep-parts.result (links keep-parts.new.edges keep-parts.new.words) keep-parts.new.reals
          (queue keep-parts.new.keys keep-parts.new.events) keep-parts.new.vertex) keep-parts.ensures.1 c.requires.1.1,
    )
