-- What a caller in C or Rust is told of some turns of a job's main loop, and of its finish. Definitions only.
use Rattle.std.specs.Prelude.{ℕ, ◌+◌, Bool, true, false, ◌&&◌, List, ◌≡◌, leb, eqb, Float, length, get_or, set, Result, Ok, Err}
use Rattle.layout.specs.Layout.{words_per_edge}
use Rattle.buffers.specs.declared.Lack.{Lack}
use Rattle.buffers.specs.Lack.{lack_number}
use Rattle.buffers.specs.Slots.{slots_of}
use Rattle.windows.specs.Windows.{capacity_of}
use Rattle.advance.specs.of_cut_lists.Buffers.{Cuts}
use Rattle.finish.specs.of_trim.Buffers.{Slices}
use Rattle.advance.specs.of_trim_split.declared.Counts.{Counts}
use Rattle.advance.specs.declared.Advanced.{Advanced}
use Rattle.advance.specs.Contract.{AdvancesTo}
use Rattle.finish.specs.Finish.{FinishesTo}

-- the windows made and the events queued, as they were told
unfoldable pub told_counts : List ℕ → Counts
told_counts t = record { made = get_or t 0 0; queued = get_or t 1 0 }

-- the number that is answered; the windows made, the events queued and the steps of these turns
unfoldable pub turns_told : Result Advanced Lack → List ℕ → ℕ × List ℕ
turns_told (Err lack) t = (lack_number lack, t)
turns_told (Ok a) t = (0, set (set (set t 0 a.counts.made) 1 a.counts.queued) 2 a.steps)

-- slices of these lengths have a slot for each window made, and the lists of an addition have as many slots each
unfoldable pub turns_fit : ℕ → ℕ → ℕ → ℕ → ℕ → ℕ → ℕ → Bool
turns_fit made words reals pts out keep next =
    leb made (capacity_of words reals) && (eqb out (pts + pts) && (eqb keep (pts + pts) && eqb next (pts + pts)))

abbrev pub turns_fit_in : ℕ → Slices → Cuts → Bool
turns_fit_in made b c = turns_fit made (length b.words) (length b.reals) (length c.pts) (length c.out) (length c.keep) (length c.next)

module _ (limit : Float) (n most : ℕ) (v : List Float) (buffer vertex_words round : List ℕ) (edge_reals : List Float) (triangle_words : List ℕ) (triangleReals : List Float)
    (told : List ℕ) (b : Slices) (c : Cuts) (r : ℕ) (b' : Slices) (c' : Cuts) (told' : List ℕ) where
  -- the turns are those of `advance`, from the counts that were told
  pub record Turned : Type 0 where
    pub answer : Result Advanced Lack
    pub advances : AdvancesTo limit n most v buffer vertex_words round edge_reals triangle_words triangleReals (told_counts told) b c answer b'
    pub tells : (r, told') ≡ turns_told answer told

  -- 20 and nothing is changed where the slices don't fit; else anything may stand in the cut lists
  pub record TurnsAnswer : Type 0 where
    pub unfit : turns_fit_in (told_counts told).made b c ≡ false → (r ≡ 20) × ((b' ≡ b) × ((c' ≡ c) × (told' ≡ told)))
    pub turned : turns_fit_in (told_counts told).made b c ≡ true → Turned

-- slots for each edge and each window made
unfoldable pub finish_fits : ℕ → ℕ → ℕ → ℕ → ℕ → Bool
finish_fits edges made edge_words words reals = leb edges (slots_of edge_words words_per_edge) && leb made (capacity_of words reals)

abbrev pub finish_fits_in : ℕ → ℕ → Slices → Bool
finish_fits_in edges made b = finish_fits edges made (length b.edges) (length b.words) (length b.reals)

pub record FinishAnswer (edges made : ℕ) (edge_reals : List Float) (b : Slices) (c : Cuts) (r : ℕ) (b' : Slices) (c' : Cuts) : Type 0 where
  pub unfit : finish_fits_in edges made b ≡ false → (r ≡ 20) × ((b' ≡ b) × (c' ≡ c))
  pub finished : finish_fits_in edges made b ≡ true → (r ≡ 0) × FinishesTo edges made edge_reals b c b' c'
