use Rattle.spread_offers.specs.of_cut_lists.Buffers.{cut_buffers}
use Rattle.spread_offers.specs.of_trim.Buffers.{slices}
use Rattle.spread_offers.proofs.laws_of_offers.Loop.{LoopInv}
use Rattle.spread.proofs.Laws.{reads_spread}
use Rattle.spread.proofs.spread.Given as goal

abbrev pub invariant-loop-i : goal.invariant-loop-i
invariant-loop-i l =
    LoopInv l.limit l.vertex_words (reads_spread l.vertices l.triangles l.edge_reals l.triangle_words l.triangle_reals l.vertex_words l.round l.s l.initial.edge_words l.o) l.initial.now (slices l.initial.edge_words l.initial.words l.initial.reals l.initial.keys l.initial.events l.initial.vertex) (cut_buffers l.initial.pts l.initial.out l.initial.keep l.initial.next)
    (slices l.edge_words l.words l.reals l.keys l.events l.vertex) (cut_buffers l.pts l.out l.keep l.next) l.now l.i
