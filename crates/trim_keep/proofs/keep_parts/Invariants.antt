use Rattle.trim_split.specs.of_better.Buffers.{pairs}
use Rattle.trim_split.proofs.Loops.{window_slices}
use Rattle.trim_keep.proofs.Loop.{KeepInv}
use Rattle.trim_keep.proofs.keep_parts.Given as goal

abbrev pub invariant-loop-i : goal.invariant-loop-i
invariant-loop-i l = KeepInv l.limit l.vertex_words l.e l.x l.tiny (pairs l.k l.keep) (window_slices l.initial.edges l.initial.words l.initial.reals l.initial.keys l.initial.events) l.initial.vertex l.initial.now.counts.made l.initial.now.counts.queued l.initial.now.last (window_slices l.edges l.words l.reals l.keys l.events) l.vertex l.now.counts.made l.now.counts.queued l.now.last l.i
