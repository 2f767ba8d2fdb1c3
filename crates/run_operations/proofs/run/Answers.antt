-- `run_operations::run` meets its contract. Assumes nothing.
use mathlib.Core.Path.{◌∙◌}
use Rattle.trim.specs.Buffers.{slices}
use Rattle.trim.specs.of_cut_lists.Buffers.{cut_buffers}
use Rattle.run_operations.proofs.Whole.{edges_same, heads_zero, zeros_stay, whole_done, whole_ended}
use Rattle.run_operations.proofs.run.Goals as goal

pub run_parts-r-requires : goal.run_parts-r-requires
run_parts-r-requires c =
    let zero-u32 = c.zero_u32 in
    let edge_count_held = c.edge_count-m in
    let a = c.args in (
      edges_same a.ends.now a.lens.now a.edges.now zero-u32.new.s edge_count_held.result zero-u32.auto.s edge_count_held.ensures,
      (c.cut_count-x.ensures, (c.count-n.ensures, heads_zero zero-u32.new.s (zeros_stay a.edges.now zero-u32.new.s zero-u32.ensures))),
    )

pub returns-in-Ok : goal.returns-in-Ok
returns-in-Ok c =
    let forget = c.forget in
    let zero-cuts = c.zero_cuts in
    let run-parts = c.run_parts-r in
    let zero-f64 = c.zero_f64 in
    let zero-u322 = c.zero_u32-2 in
    let zero-u32 = c.zero_u32 in
    let a = c.args in
    whole_done a.limit a.vertex_words.now a.ends.now a.lens.now a.ops.now a.args.now
    (slices a.edges.now a.words.now a.reals.now a.keys.now a.events.now a.vertex.now) (cut_buffers a.pts.now a.out.now a.keep.now a.next.now)
    zero-u32.new.s zero-u322.new.s zero-f64.new.s zero-u32.ensures zero-u322.ensures zero-f64.ensures run-parts.result
    (slices run-parts.new.edges run-parts.new.words run-parts.new.reals
    run-parts.new.keys run-parts.new.events run-parts.new.vertex)
    run-parts.ensures (cut_buffers run-parts.new.pts run-parts.new.out
    run-parts.new.keep run-parts.new.next)
    (cut_buffers zero-cuts.new.pts zero-cuts.new.out zero-cuts.new.keep zero-cuts.new.next)
    (record {
      pts = run-parts.auto.pts;
      out = run-parts.auto.out;
      keep
          = run-parts.auto.keep;
      next = run-parts.auto.next;
    }) zero-cuts.ensures
    c.in-Ok.counts c.in-Ok.is
    (record {
      edges = run-parts.auto.edges ∙ zero-u32.auto.s;
      words = run-parts.auto.words ∙ zero-u322.auto.s;
      reals
          = run-parts.auto.reals ∙ zero-f64.auto.s;
      keys = run-parts.auto.keys;
      events
          = run-parts.auto.events;
      vertex = run-parts.auto.vertex;
    }) forget.new.edges forget.ensures

pub returns-in-Err : goal.returns-in-Err
returns-in-Err c =
    let zero-slices = c.zero_slices in
    let zero-cuts = c.zero_cuts in
    let run-parts = c.run_parts-r in
    let zero-f64 = c.zero_f64 in
    let zero-u322 = c.zero_u32-2 in
    let zero-u32 = c.zero_u32 in
    let a = c.args in
    whole_ended a.limit a.vertex_words.now a.ends.now a.lens.now a.ops.now a.args.now
    (slices a.edges.now a.words.now a.reals.now a.keys.now a.events.now a.vertex.now) (cut_buffers a.pts.now a.out.now a.keep.now a.next.now)
    zero-u32.new.s zero-u322.new.s zero-f64.new.s zero-u32.ensures zero-u322.ensures zero-f64.ensures run-parts.result
    (slices run-parts.new.edges run-parts.new.words run-parts.new.reals
    run-parts.new.keys run-parts.new.events run-parts.new.vertex)
    run-parts.ensures (cut_buffers run-parts.new.pts run-parts.new.out
    run-parts.new.keep run-parts.new.next)
    (cut_buffers zero-cuts.new.pts zero-cuts.new.out zero-cuts.new.keep zero-cuts.new.next)
    (record {
      pts = run-parts.auto.pts;
      out = run-parts.auto.out;
      keep
          = run-parts.auto.keep;
      next = run-parts.auto.next;
    }) zero-cuts.ensures
    c.in-Err.ended c.in-Err.is (slices zero-slices.new.edges zero-slices.new.words zero-slices.new.reals zero-slices.new.keys
    zero-slices.new.events zero-slices.new.vertex)
    (record {
      edges = run-parts.auto.edges ∙ zero-u32.auto.s;
      words = run-parts.auto.words ∙ zero-u322.auto.s;
      reals
          = run-parts.auto.reals ∙ zero-f64.auto.s;
      keys = run-parts.auto.keys;
      events
          = run-parts.auto.events;
      vertex = run-parts.auto.vertex;
    }) zero-slices.ensures
