-- What else the Rust does at the end of `compute`: the `low` of every window is set, dead windows leave the lists of their edges, and the lists are sorted. Definitions only: it
-- changes nothing (proofs/Finished.antt).
use Rattle.std.specs.Prelude.{ℕ, ◌<◌, List, [], ◌∷◌, map, ◌≡◌, length, get_or, if◌then◌else◌}
use Rattle.nat_laws.specs.Lists.{sort_by}
use Rattle.float64.specs.TotalOrder.{total_less}
use Rattle.source.specs.declared.Src.{Src}
use Rattle.source.specs.Distance.{lowest_of}
use Rattle.windows.specs.declared.WindowRecord.{WindowRecord}
use Rattle.windows.specs.Windows.{trimmed}
use Rattle.pop.specs.of_better.Claim.{All}
use Rattle.pop.specs.of_trim_model.Windows.{Window}
use Rattle.pop.specs.of_trim_state.State.{State}

-- `for w in &mut field.wins { w.low = w.src.lowest(w.b0, w.b1); }`, dead ones too
abbrev pub low_set : WindowRecord → WindowRecord
low_set x = trimmed x x.win.b0 x.win.b1 (lowest_of x.win.src x.win.b0 x.win.b1)

abbrev pub lows_set : List WindowRecord → List WindowRecord
lows_set wins = map low_set wins

-- an edge's list of numbers; `none` is read for a number past the windows made, which no list has
module _ (wins : List WindowRecord) (none : WindowRecord) where
  -- `list.retain(|&i| wins[i as usize].alive)`
  unfoldable pub retained : List ℕ → List ℕ
  retained [] = []
  retained (i ∷ is) = if (get_or wins i none).alive then i ∷ retained is else retained is

  -- `list.sort_by(|&i, &j| wins[i as usize].b0.total_cmp(&wins[j as usize].b0))`
  abbrev pub resorted : List ℕ → List ℕ
  resorted is = sort_by (λ (i j : ℕ). total_less (get_or wins i none).win.b0 (get_or wins j none).win.b0) is

-- ---- what holds of each state that additions and pops come to
-- a window's `low` is the lowest of its source over its ends
abbrev pub LowIs : WindowRecord → Type 0
LowIs x = x.win.low ≡ lowest_of x.win.src x.win.b0 x.win.b1

abbrev pub sources_of : List WindowRecord → List Src
sources_of wins = map (λ (x : WindowRecord). x.win.src) wins

-- the window of the number of u was made, and has the source of u
pub record Sourced (sources : List Src) (u : Window) : Type 0 where
  pub made : u.num < length sources
  pub source : (d : Src) → get_or sources u.num d ≡ u.src

pub record Recorded (s : State) : Type 0 where
  pub count : s.stock.made ≡ length s.wins
  pub sources : (e : ℕ) → All (Sourced (sources_of s.wins)) (s.live e)
  -- of every window made, dead ones too
  pub lows : All LowIs s.wins
