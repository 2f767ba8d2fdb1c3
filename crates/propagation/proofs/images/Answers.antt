-- `propagation::images` meets its contract. Assumes nothing.
use Rattle.propagation.specs.Propagate.{images_of}
use Rattle.propagation.proofs.images.Goals as goal

pub returns-in-Point : goal.returns-in-Point
unfolding images_of
returns-in-Point c = rw (c.in-Point.is, c.clipped.ensures, c.min.ensures, c.image_of_point-in-Point.ensures, c.image_of_point.ensures, c.map-sn.ensures)

pub returns-in-Line : goal.returns-in-Line
unfolding images_of
returns-in-Line c = rw (c.in-Line.is, c.clipped-in-Line.ensures, c.max.ensures, c.image_of_line-in-Line.ensures, c.image_of_line.ensures, c.turn-un.ensures)
