use Rattle.face_query.proofs.to_second.Goals as goal

pub returns : goal.returns
returns c = rw (c.to_point.ensures, c.vector_from.ensures)
