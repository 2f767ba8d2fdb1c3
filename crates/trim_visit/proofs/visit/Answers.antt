-- `trim_visit::visit` meets its contract. Assumes nothing.
use Prim.Native.Nat.{◌+◌}
use mathlib.Core.List.{List}
use mathlib.Core.Path.{◌∙◌}
use native.Mathlib.Omega.{arith}
use native.Mathlib.Numerals.{add-one}
use lib.Ieee.{Float, nan}
use Rattle.std.proofs.lemmas.Result.{err_from_is_err_and}
use Rattle.buffers.specs.Lack.{lack_number}
use Rattle.trim_split.specs.Running.{stopped, at}
use Rattle.trim_split.proofs.Loops.{window_slices, snapshot_of}
use Rattle.trim_split.specs.of_cut_lists.Buffers.{cut_buffers}
use Rattle.trim_visit.proofs.Meeting.{visit_passes, keeps_passes, visit_full, visit_none, keeps_none, pieces_fit, visit_split, keeps_split}
use Rattle.trim_visit.proofs.visit.Goals as goal

pub returns-then-hi-lo : goal.returns-then-hi-lo
returns-then-hi-lo c =
    let if1 = c.if-hi-lo in
    let min = c.min-hi in
    let max = c.max-lo in
    let a = c.args in
    let the-cuts = cut_buffers a.pts.now a.out.now a.keep.now a.next.now in
    let the-slices = window_slices a.edges.now a.words.now a.reals.now a.keys.now a.events.now in (
      keeps_passes a.e.0 a.tiny a.w a.x a.id.0 a.counts.made a.counts.queued a.before a.k the-slices the-cuts c.requires.0.fits c.requires.1.0
          max.result min.result max.ensures min.ensures if1.true c.requires.1.1.1 nan,
      visit_passes a.e.0 a.tiny a.w a.x a.id.0 a.counts.made
          a.counts.queued a.before a.k the-slices the-cuts c.requires.0.fits c.requires.1.0 max.result min.result max.ensures min.ensures if1.true
          (a.id.0 + 1) (add-one a.id.0),
    )

pub returns-in_default : goal.returns-in_default
returns-in_default c =
    let min = c.min-hi in
    let max = c.max-lo in
    let a = c.args in (
      tt,
      visit_full a.e.0 a.tiny a.w a.x a.id.0 a.counts.made a.counts.queued a.before a.k
          (window_slices a.edges.now a.words.now a.reals.now a.keys.now a.events.now) (cut_buffers a.pts.now a.out.now a.keep.now a.next.now) c.requires.0.fits
          c.requires.1.0 max.result min.result max.ensures min.ensures c.if-hi-lo.false (rw c.in_default.is at c.cut-met.ensures),
    )

pub overflow_add-result-then-shared-eq0 : goal.overflow_add-result-then-shared-eq0
overflow_add-result-then-shared-eq0 c =
    omega (arith, c.requires.1.0, c.requires.0.fits)

pub returns-then-shared-eq0 : goal.returns-then-shared-eq0
returns-then-shared-eq0 c =
    let if2 = c.if-shared-eq0 in
    let cut = c.cut-met in
    let if1 = c.if-hi-lo in
    let min = c.min-hi in
    let max = c.max-lo in
    let a = c.args in
    let the-cut = cut.new.next in
    let the-cuts = cut_buffers a.pts.now a.out.now a.keep.now a.next.now in
    let the-slices = window_slices a.edges.now a.words.now a.reals.now a.keys.now a.events.now in (
      keeps_none a.e.0 a.tiny a.w a.x a.id.0 a.counts.made a.counts.queued a.before a.k the-slices the-cuts c.requires.0.fits c.requires.1.0
          max.result min.result max.ensures min.ensures if1.false c.in-Some.shared.kept c.in-Some.shared.lost c.in-Some.shared.pieces cut.new.keep the-cut
          (rw c.in-Some.is at cut.ensures) if2.true nan,
      visit_none a.e.0 a.tiny a.w a.x a.id.0 a.counts.made a.counts.queued a.before a.k the-slices
          the-cuts c.requires.0.fits c.requires.1.0 max.result min.result max.ensures min.ensures if1.false c.in-Some.shared.kept c.in-Some.shared.lost
          c.in-Some.shared.pieces cut.new.keep the-cut (rw c.in-Some.is at cut.ensures) if2.true (a.id.0 + 1) (add-one a.id.0),
    )

pub split_window-requires : goal.split_window-requires
split_window-requires c =
    let cut = c.cut-met in
    let min = c.min-hi in
    let max = c.max-lo in
    let a = c.args in (
      c.requires.0,
      (
        c.requires.1.0,
        pieces_fit a.e.0 a.tiny a.w a.x a.id.0 a.counts.made a.counts.queued a.before a.k
            (window_slices a.edges.now a.words.now a.reals.now a.keys.now a.events.now) (cut_buffers a.pts.now a.out.now a.keep.now a.next.now) c.requires.0.fits
            c.requires.1.0 max.result min.result max.ensures min.ensures c.if-hi-lo.false c.in-Some.shared.kept c.in-Some.shared.lost c.in-Some.shared.pieces
            cut.new.keep cut.new.next (rw c.in-Some.is at cut.ensures) c.if-shared-eq0.false
            (cut.auto.next ∙ c.requires.1.1.0.nexts),
      ),
    )

pub returns-in_err-made : goal.returns-in_err-made
returns-in_err-made c =
    let cut = c.cut-met in
    let min = c.min-hi in
    let max = c.max-lo in
    let a = c.args in
    let p = err_from_is_err_and c.from_residual.result c.from_residual.ensures.1 in
    rw (p.1, p.2) (
      tt,
      visit_split a.e.0 a.tiny a.w a.x a.id.0 a.counts.made a.counts.queued a.before a.k
          (window_slices a.edges.now a.words.now a.reals.now a.keys.now a.events.now) (cut_buffers a.pts.now a.out.now a.keep.now a.next.now) c.requires.0.fits
          c.requires.1.0 max.result min.result max.ensures min.ensures c.if-hi-lo.false c.in-Some.shared.kept c.in-Some.shared.lost c.in-Some.shared.pieces
          cut.new.keep cut.new.next (rw c.in-Some.is at cut.ensures) c.if-shared-eq0.false
          (λ (vertex : List Float). stopped (lack_number c.in_err-made.field-0.0)) c.in_err-made.ensures.1,
    )

pub returns : goal.returns
returns c =
    let split-window = c.split_window in
    let if2 = c.if-shared-eq0 in
    let cut = c.cut-met in
    let if1 = c.if-hi-lo in
    let min = c.min-hi in
    let max = c.max-lo in
    let a = c.args in
    let the-cut = cut.new.next in
    let the-cuts = cut_buffers a.pts.now a.out.now a.keep.now a.next.now in
    let the-slices = window_slices a.edges.now a.words.now a.reals.now a.keys.now a.events.now in (
      keeps_split a.e.0 a.tiny a.w a.x a.id.0 a.counts.made a.counts.queued a.before a.k the-slices the-cuts c.requires.0.fits c.requires.1.0
          max.result min.result max.ensures min.ensures if1.false c.in-Some.shared.kept c.in-Some.shared.lost c.in-Some.shared.pieces cut.new.keep the-cut
          (rw c.in-Some.is at cut.ensures) if2.false c.in_ok-made.made.counts.made c.in_ok-made.ensures.0 nan,
      visit_split a.e.0 a.tiny a.w a.x
          a.id.0 a.counts.made a.counts.queued a.before a.k the-slices the-cuts c.requires.0.fits c.requires.1.0 max.result min.result max.ensures
          min.ensures if1.false c.in-Some.shared.kept c.in-Some.shared.lost c.in-Some.shared.pieces cut.new.keep the-cut (rw c.in-Some.is at cut.ensures)
          if2.false (λ (vertex : List Float). at
          (snapshot_of (window_slices split-window.new.edges split-window.new.words split-window.new.reals split-window.new.keys split-window.new.events)
          c.in_ok-made.made.counts.made c.in_ok-made.made.counts.queued c.in_ok-made.made.last vertex)) c.in_ok-made.ensures.1,
    )
