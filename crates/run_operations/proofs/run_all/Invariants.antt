use Rattle.trim.specs.Buffers.{slices}
use Rattle.trim.specs.of_cut_lists.Buffers.{cut_buffers}
use Rattle.run_operations.proofs.Loop.{Inv}
use Rattle.run_operations.proofs.run_all.Given as goal

abbrev pub invariant-loop-k : goal.invariant-loop-k
invariant-loop-k l =
    Inv l.limit l.vertex_words l.ends l.lens l.m l.ops l.args l.n (slices l.initial.edges l.initial.words l.initial.reals l.initial.keys l.initial.events l.initial.vertex) (cut_buffers l.initial.pts l.initial.out l.initial.keep l.initial.next) l.k l.counts.made l.counts.queued (slices l.edges l.words l.reals l.keys l.events l.vertex) (cut_buffers l.pts l.out l.keep l.next)
