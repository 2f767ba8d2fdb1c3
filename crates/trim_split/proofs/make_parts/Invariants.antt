use Rattle.cut_lists.specs.of_better.Buffers.{pairs}
use Rattle.trim_split.proofs.Loops.{window_slices, PartsInv}
use Rattle.trim_split.proofs.make_parts.Given as goal

abbrev pub invariant-loop-i : goal.invariant-loop-i
invariant-loop-i l = PartsInv l.e.0 l.x (pairs l.n l.pieces) (window_slices l.initial.edges l.initial.words l.initial.reals l.initial.keys l.initial.events) l.initial.now.counts.made l.initial.now.counts.queued l.initial.now.last (window_slices l.edges l.words l.reals l.keys l.events) l.now.counts.made l.now.counts.queued l.now.last l.i
