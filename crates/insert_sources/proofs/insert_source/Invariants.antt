use Rattle.insertion.specs.of_cut_lists.Buffers.{cut_buffers}
use Rattle.insertion.specs.of_trim.Buffers.{slices}
use Rattle.insertion.specs.of_face_entries.Buffers.{entry_buffers}
use Rattle.insert_sources.specs.Job.{insertion_slices}
use Rattle.insert_sources.proofs.Loop.{InsertInv}
use Rattle.insert_sources.proofs.Sources.{one_of}
use Rattle.insert_sources.proofs.insert_source.Given as goal

abbrev pub invariant-loop-i : goal.invariant-loop-i
invariant-loop-i l =
    InsertInv l.limit (insertion_slices l.vertices l.vertex_words l.edge_reals l.triangle_reals l.round l.kinds l.faces l.coords l.piece_words l.piece_reals) (one_of (insertion_slices l.vertices l.vertex_words l.edge_reals l.triangle_reals l.round l.kinds l.faces l.coords l.piece_words l.piece_reals) l.j)
    l.initial.now (slices l.initial.edge_words l.initial.words l.initial.reals l.initial.keys l.initial.events l.initial.vertex) (entry_buffers l.initial.triangle_words l.initial.entry_words) (cut_buffers l.initial.pts l.initial.out l.initial.keep l.initial.next) l.count
    (slices l.edge_words l.words l.reals l.keys l.events l.vertex) (entry_buffers l.triangle_words l.entry_words) (cut_buffers l.pts l.out l.keep l.next) l.now l.i
