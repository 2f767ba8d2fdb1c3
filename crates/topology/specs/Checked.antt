-- What the laws of the topology ask of a mesh, by the checks that find it: a job that passed has it all (`sound` of job_checks). Definitions only.
pub use Rattle.job_checks.specs.Sound.{ValidTriangles, VerticesInRange, RegularTriangles}
