-- `trim::add` meets its contract. Assumes nothing.
use mathlib.Core.Path.{refl}
use lib.ListN.{length}
use Rattle.std.proofs.lemmas.Result.{err_from_is_err_and}
use Rattle.buffers.specs.Lack.{lack_number}
use Rattle.trim_visit.specs.of_trim_split.Running.{stopped, at}
use Rattle.trim_visit.proofs.laws_of_trim_split.Loops.{window_slices, windows_of, snapshot_of}
use Rattle.trim_visit.specs.of_cut_lists.Buffers.{cut_buffers}
use Rattle.trim.specs.Buffers.{slices as Buffers·slices}
use Rattle.trim.proofs.Calls.{add_narrow, add_far, add_admitted, add_not_skipped, add_went, unchanged}
use Rattle.trim.proofs.add.Goals as goal

pub returns-then-b1-b0 : goal.returns-then-b1-b0
returns-then-b1-b0 c =
    let a = c.args in
    let s = (window_slices a.edges.now a.words.now a.reals.now a.keys.now a.events.now) in
    let size = length a.pts.now in
    let p = snapshot_of s a.counts.made a.counts.queued 0 a.vertex.now in
    record {
      bounded = c.requires.0.fits;
      adds = add_narrow size (windows_of s) a.limit a.vertex_words.now a.e a.w p c.if-b1-b0.true;
      skips = λ z. unchanged a.counts
          (Buffers·slices a.edges.now a.words.now a.reals.now a.keys.now a.events.now a.vertex.now) (cut_buffers a.pts.now a.out.now a.keep.now a.next.now);
    }

pub returns-then-low-limit : goal.returns-then-low-limit
returns-then-low-limit c =
    let lowest = c.lowest-low in
    let a = c.args in
    let s = (window_slices a.edges.now a.words.now a.reals.now a.keys.now a.events.now) in
    let size = length a.pts.now in
    let p = snapshot_of s a.counts.made a.counts.queued 0 a.vertex.now in
    record {
      bounded = c.requires.0.fits;
      adds = add_far size (windows_of s) a.limit a.vertex_words.now a.e a.w p lowest.result lowest.ensures c.if-b1-b0.false
          c.if-low-limit.true;
      skips = λ z. unchanged a.counts (Buffers·slices a.edges.now a.words.now a.reals.now a.keys.now a.events.now a.vertex.now)
          (cut_buffers a.pts.now a.out.now a.keep.now a.next.now);
    }

pub admit-requires : goal.admit-requires
admit-requires c = (c.requires.0, (c.requires.1, c.lowest-low.ensures))

pub returns-in_err-made : goal.returns-in_err-made
returns-in_err-made c =
    let if2 = c.if-low-limit in
    let lowest = c.lowest-low in
    let if1 = c.if-b1-b0 in
    let a = c.args in
    let s = (window_slices a.edges.now a.words.now a.reals.now a.keys.now a.events.now) in
    let size = length a.pts.now in
    let p = snapshot_of s a.counts.made a.counts.queued 0 a.vertex.now in
    let done = c.in_err-made.ensures.1 in
    let gave = err_from_is_err_and c.from_residual.result c.from_residual.ensures.1 in
    rw (gave.1, gave.2) (record {
      bounded = tt;
      adds = add_admitted size (windows_of s) a.limit a.vertex_words.now a.e a.w p lowest.result lowest.ensures if1.false if2.false
          (stopped (lack_number c.in_err-made.field-0.0)) (done refl);
      skips = add_not_skipped size (windows_of s) a.limit a.vertex_words.now a.e a.w p
          lowest.result lowest.ensures if1.false if2.false _ _ _ _ _ _;
    })

pub returns : goal.returns
returns c =
    let admit = c.admit in
    let if2 = c.if-low-limit in
    let lowest = c.lowest-low in
    let if1 = c.if-b1-b0 in
    let a = c.args in
    let s = (window_slices a.edges.now a.words.now a.reals.now a.keys.now a.events.now) in
    let size = length a.pts.now in
    let p = snapshot_of s a.counts.made a.counts.queued 0 a.vertex.now in
    let s' = (window_slices admit.new.edges admit.new.words admit.new.reals admit.new.keys admit.new.events) in
    let n = c.in_ok-made.made.counts in
    let last = c.in_ok-made.made.last in
    let vertex = admit.new.vertex in
    let done = c.in_ok-made.ensures.1 in
    record {
      bounded = c.in_ok-made.ensures.0.0;
      adds = add_went size (windows_of s) a.limit a.vertex_words.now a.e a.w p n.made n.queued last
          s' vertex (add_admitted size (windows_of s) a.limit a.vertex_words.now a.e a.w p lowest.result lowest.ensures if1.false if2.false
          (at (snapshot_of s' n.made n.queued last vertex)) (done refl));
      skips = add_not_skipped size (windows_of s) a.limit a.vertex_words.now a.e a.w p
          lowest.result lowest.ensures if1.false if2.false _ _ _ _ _ _;
    }
