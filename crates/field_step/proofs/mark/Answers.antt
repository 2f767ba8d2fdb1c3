use Rattle.field_step.specs.Step.{marked_vertex}
use Rattle.field_step.proofs.mark.Goals as goal

pub returns-in-Window : goal.returns-in-Window
unfolding marked_vertex
returns-in-Window c = rw c.in-Window.is

pub shape_of-vertex : goal.shape_of-vertex
shape_of-vertex c = c.set_emitted.auto.vertex

pub returns-in-Vertex : goal.returns-in-Vertex
unfolding marked_vertex
returns-in-Vertex c = rw c.in-Vertex.is c.set_emitted.ensures
