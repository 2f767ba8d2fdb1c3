use Rattle.insertion.specs.of_cut_lists.Buffers.{cut_buffers}
use Rattle.insertion.specs.of_trim.Buffers.{slices}
use Rattle.advance.proofs.Loop.{LoopInv}
use Rattle.advance.proofs.advance.Given as goal

abbrev pub invariant-loop-steps : goal.invariant-loop-steps
invariant-loop-steps l =
    LoopInv l.limit l.n l.most l.vertices l.triangles l.vertex_words l.round l.edge_reals l.triangle_words l.triangle_reals l.initial.now (slices l.initial.edge_words l.initial.words l.initial.reals l.initial.keys l.initial.events l.initial.vertex) (cut_buffers l.initial.pts l.initial.out l.initial.keep l.initial.next)
    (slices l.edge_words l.words l.reals l.keys l.events l.vertex) (cut_buffers l.pts l.out l.keep l.next) l.now l.steps
