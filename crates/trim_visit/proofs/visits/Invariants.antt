use Prim.Native.Nat.{◌-◌}
use Rattle.trim_split.specs.of_live_windows.Live.{live_of}
use Rattle.trim_split.proofs.Loops.{window_slices}
use Rattle.trim_visit.proofs.Loop.{VisitsInv}
use Rattle.trim_split.specs.of_cut_lists.Buffers.{cut_buffers}
use Rattle.trim_visit.proofs.visits.Given as goal

abbrev pub invariant-loop-turn : goal.invariant-loop-turn
invariant-loop-turn l = VisitsInv l.e.0 l.tiny (live_of l.w 0) (window_slices l.initial.edges l.initial.words l.initial.reals l.initial.keys l.initial.events) (cut_buffers l.initial.pts l.initial.out l.initial.keep l.initial.next) l.initial.now.counts.made l.initial.now.counts.queued l.initial.now.last l.initial.now.kept (window_slices l.edges l.words l.reals l.keys l.events) (cut_buffers l.pts l.out l.keep l.next) l.now.counts.made l.now.counts.queued l.now.last l.now.kept (l.initial.now.counts.made - l._turn)
