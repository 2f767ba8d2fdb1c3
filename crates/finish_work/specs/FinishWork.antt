-- What `finish_work` does to the buffers. Definitions only.
use Rattle.std.specs.Prelude.{ℕ, List, ◌≡◌, Float}
use Rattle.run_steps.specs.of_cut_lists.Buffers.{Cuts}
use Rattle.finish.specs.of_trim.Buffers.{Slices}
use Rattle.run_steps.specs.declared.FieldWork.{FieldWork}
use Rattle.run_steps.specs.declared.FieldWork.TheVariants.{Refused, Done}
use Rattle.finish.specs.Finish.{FinishesTo}

-- of a mesh with so many edges: after a refusal nothing is done
abbrev pub FinishesWork : FieldWork → ℕ → List Float → Slices → Cuts → Slices → Cuts → Type 0
FinishesWork (Refused k) edges edge_reals b c b' c' = (b' ≡ b) × (c' ≡ c)
FinishesWork (Done n steps) edges edge_reals b c b' c' = FinishesTo edges n.trim.made edge_reals b c b' c'
