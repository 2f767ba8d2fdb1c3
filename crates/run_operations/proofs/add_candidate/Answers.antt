-- `run_operations::add_candidate` meets its contract. Assumes nothing.
use Rattle.std.proofs.lemmas.Result.{err_from_is_err_and}
use Rattle.trim.specs.Buffers.{slices}
use Rattle.trim.specs.of_cut_lists.Buffers.{cut_buffers}
use Rattle.run_operations.proofs.Candidates.{candidate_refused, candidate_ready, candidate_sizes, candidate_stopped, candidate_went}
use Rattle.run_operations.proofs.add_candidate.Goals as goal

pub returns-in_err-check_candidate : goal.returns-in_err-check_candidate
returns-in_err-check_candidate c =
    let read-f64 = c.read_f64-len in
    let a = c.args in
    let p = err_from_is_err_and c.from_residual.result c.from_residual.ensures.1 in
    rw (p.1, p.2) (candidate_refused a.limit a.vertex_words.now a.ends.now a.lens.now a.m
    (slices a.edges.now a.words.now a.reals.now a.keys.now a.events.now a.vertex.now) (cut_buffers a.pts.now a.out.now a.keep.now a.next.now) a.counts.made
    a.counts.queued a.id a.w read-f64.result read-f64.ensures c.in_err-check_candidate.field-0.0 c.in_err-check_candidate.ensures)

pub add-requires : goal.add-requires
add-requires c =
    let read-f64 = c.read_f64-len in
    let a = c.args in
    let the-cuts = cut_buffers a.pts.now a.out.now a.keep.now a.next.now in
    let the-slices = slices a.edges.now a.words.now a.reals.now a.keys.now a.events.now a.vertex.now in (
      candidate_ready a.limit a.vertex_words.now a.ends.now a.lens.now a.m the-slices the-cuts a.counts.made a.counts.queued a.id a.w read-f64.result read-f64.ensures
          c.in_ok-check_candidate.ensures c.requires,
      candidate_sizes a.m a.counts.made the-slices the-cuts c.requires,
    )

pub returns-in_err-now : goal.returns-in_err-now
returns-in_err-now c =
    let add = c.add in
    let read-u322 = c.read_u32-high in
    let read_u32 = c.read_u32-low in
    let read-f64 = c.read_f64-len in
    let a = c.args in
    let p = err_from_is_err_and c.from_residual-in_err-now.result c.from_residual-in_err-now.ensures.1 in
    rw (p.1, p.2) (candidate_stopped a.limit a.vertex_words.now a.ends.now a.lens.now a.m
    (slices a.edges.now a.words.now a.reals.now a.keys.now a.events.now a.vertex.now) (cut_buffers a.pts.now a.out.now a.keep.now a.next.now) a.counts.made
    a.counts.queued a.id a.w read-f64.result read-f64.ensures c.in_ok-check_candidate.ensures read_u32.result read-u322.result read_u32.ensures
    read-u322.ensures c.in_err-now.field-0.0
    (slices add.new.edges add.new.words add.new.reals add.new.keys add.new.events add.new.vertex)
    c.in_err-now.ensures.adds)

pub returns : goal.returns
returns c =
    let add = c.add in
    let read-u322 = c.read_u32-high in
    let read_u32 = c.read_u32-low in
    let read-f64 = c.read_f64-len in
    let a = c.args in
    candidate_went a.limit a.vertex_words.now a.ends.now a.lens.now a.m
    (slices a.edges.now a.words.now a.reals.now a.keys.now a.events.now a.vertex.now) (cut_buffers a.pts.now a.out.now a.keep.now a.next.now) a.counts.made
    a.counts.queued a.id a.w read-f64.result read-f64.ensures c.in_ok-check_candidate.ensures read_u32.result read-u322.result read_u32.ensures
    read-u322.ensures c.in_ok-now.now (slices add.new.edges add.new.words add.new.reals add.new.keys add.new.events
    add.new.vertex) c.in_ok-now.ensures.bounded c.in_ok-now.ensures.adds
