use Rattle.face_query.proofs.to_whole.Goals as goal

pub returns : goal.returns
returns c = rw (c.to_segment.ensures, c.vector_from-b.ensures, c.vector_from-a.ensures)
