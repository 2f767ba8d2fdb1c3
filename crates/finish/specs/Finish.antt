-- What `finish` does to the buffers, whatever they hold. Definitions only.
use Rattle.std.specs.Prelude.{ℕ, ◌/◌, List, ◌≡◌, length, Float}
use Rattle.layout.specs.Layout.{words_per_edge}
use Rattle.chains.specs.Chains.{links}
use Rattle.offers.specs.of_cut_lists.Buffers.{Cuts}
use Rattle.offers.specs.of_trim.Buffers.{Slices}
use Rattle.zero_buffers.specs.ZeroIf.{zero_reals, zero_words, zero_cuts}
use Rattle.contents.specs.Contents.{forgotten}
use Rattle.last_pass.specs.Buffers.{lowered_all_at}

-- of so many edges, where so many windows are made: b and c at the call, b' and c' at the return
pub record FinishesTo (count made : ℕ) (edge_reals : List Float) (b : Slices) (c : Cuts) (b' : Slices) (c' : Cuts) : Type 0 where
  -- the last pass
  pub vertex : b'.vertex ≡ lowered_all_at made edge_reals (links b.edges b.words) b.reals count b.vertex
  -- the scratch word of every edge is zeroed
  pub edges : b'.edges ≡ forgotten (length b.edges / words_per_edge) b.edges
  pub words : b'.words ≡ b.words
  pub reals : b'.reals ≡ b.reals
  pub keys : b'.keys ≡ zero_reals b.keys
  pub events : b'.events ≡ zero_words b.events
  pub cuts : c' ≡ zero_cuts c
