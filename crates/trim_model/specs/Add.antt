-- The Rust's `add` of an admitted window to the live windows of its edge, and the slivers that it drops. Definitions only.
use Rattle.std.specs.Prelude.{ℕ, ◌+◌, ◌*◌, pred, Bool, not, ◌&&◌, Float, if◌then◌else◌}
use mathlib.Core.List.{List, [], ◌∷◌, ◌++◌}
use Rattle.std.proofs.Math.ListN.{length}
use Rattle.std.specs.Float.Ieee.{lt, le}
use Rattle.float64.specs.Scalar.{min_of, max_of}
use Rattle.float64.specs.Notation.{◌⊕◌, ◌⊖◌}
use Rattle.source.specs.declared.Src.{Src}
use Rattle.better.specs.Stretches.{Interval, interval}
use Rattle.trim_model.specs.Intervals.{width, next, pieces, piece_slivers, wide_of, keep_slivers}
use Rattle.trim_model.specs.Windows.{Window, fresh, split, sorted, take_while, drop_while, take_while_end, drop_while_end}

-- where the first source is shorter than the second from lo to hi: the type of the Rust's `better`
abbrev pub Better : Type 0
Better = Src → Src → Float → Float → List Interval

-- while the run is walked: the Rust's `survivors` and `keep`, how many windows are made, and the slivers dropped so far
pub record Walk : Type 0 where
  pub survivors : List Window
  pub keep : List Interval
  pub made : ℕ
  pub slivers : List Interval

-- what an addition leaves: the edge's live windows, how many windows are made, and the slivers that it dropped
pub record AddOutcome : Type 0 where
  pub live : List Window
  pub made : ℕ
  pub slivers : List Interval

-- ---- the run list[i0..i1], what stands before it, and what behind it
abbrev pub starts_before : Float → Window → Bool
starts_before x u = lt u.b0 x

abbrev pub ends_after : Float → Window → Bool
ends_after x u = lt x u.b1

abbrev pub before : Float → Window → List Window → List Window
before tiny w list = drop_while_end (ends_after (w.b0 ⊖ tiny)) (take_while (starts_before w.b0) list)

-- list[i0..]
abbrev pub onward : Float → Window → List Window → List Window
onward tiny w list = take_while_end (ends_after (w.b0 ⊖ tiny)) (take_while (starts_before w.b0) list) ++ drop_while (starts_before w.b0) list

abbrev pub run : Float → Window → List Window → List Window
run tiny w list = take_while (starts_before (w.b1 ⊕ tiny)) (onward tiny w list)

abbrev pub behind : Float → Window → List Window → List Window
behind tiny w list = drop_while (starts_before (w.b1 ⊕ tiny)) (onward tiny w list)

-- a walk forward from the head of the list, to a new window that starts at b0, passes u
abbrev pub passes : Float → Float → Window → Bool
passes tiny b0 u = starts_before b0 u && not (ends_after (b0 ⊖ tiny) u)

-- ---- the loop over the run
-- (lo, hi): what an existing window u shares with the new one
abbrev pub shared_lo : Window → Window → Float
shared_lo w u = max_of u.b0 w.b0

abbrev pub shared_hi : Window → Window → Float
shared_hi w u = min_of u.b1 w.b1

abbrev pub start : Window → ℕ → Walk
start w made = record { survivors = []; keep = interval w.b0 w.b1 ∷ []; made = made; slivers = [] }

abbrev pub untouched : Window → Walk → Walk
untouched u s = record { survivors = s.survivors ++ (u ∷ []); keep = s.keep; made = s.made; slivers = s.slivers }

-- an existing window u that shares [lo, hi] with the new one, which is shorter in `better`
unfoldable pub meet : Float → Window → Float → Float → List Interval → Walk → Walk
meet tiny u lo hi [] s = record {
  survivors = s.survivors ++ (u ∷ []);
  keep = next lo hi [] s.keep;
  made = s.made;
  slivers = s.slivers;
}
meet tiny u lo hi (g ∷ better) s =
    let ps = pieces tiny u.b0 u.b1 (g ∷ better) in
    record {
      survivors = s.survivors ++ split u s.made ps;
      keep = next lo hi (g ∷ better) s.keep;
      made = s.made + pred (length ps);
      slivers = s.slivers ++ piece_slivers tiny u.b0 u.b1 (g ∷ better);
    }

module _ (better : Better) where
  unfoldable pub visit : Float → Window → Window → Walk → Walk
  unfolding meet
  visit tiny w u s =
      let lo = shared_lo w u in
      let hi = shared_hi w u in
      if le (width lo hi) tiny then untouched u s else meet tiny u lo hi (better w.src u.src lo hi) s

  unfoldable pub visits : Float → Window → List Window → Walk → Walk
  unfolding visit
  visits tiny w [] s = s
  visits tiny w (u ∷ us) s = visits tiny w us (visit tiny w u s)

  -- the whole: the run is replaced by what survives and the new windows
  unfoldable pub add_to : Float → Window → List Window → ℕ → AddOutcome
  unfolding visits
  add_to tiny w list made =
      let s = visits tiny w (run tiny w list) (start w made) in
      let ks = wide_of tiny s.keep in
      record {
        live = before tiny w list ++ (sorted (s.survivors ++ fresh w s.made ks) ++ behind tiny w list);
        made = s.made + length ks;
        slivers = s.slivers ++ keep_slivers tiny s.keep;
      }

  -- ---- 01's bound on the slivers of one addition: 1, plus 3 for each live window met, plus 3 for each stretch that `better` named
  unfoldable pub met_bound : Float → Window → Window → ℕ
  met_bound tiny w u =
      let lo = shared_lo w u in
      let hi = shared_hi w u in
      if le (width lo hi) tiny then 0 else 3 + 3 * length (better w.src u.src lo hi)

  unfoldable pub met_bounds : Float → Window → List Window → ℕ
  unfolding met_bound
  met_bounds tiny w [] = 0
  met_bounds tiny w (u ∷ us) = met_bound tiny w u + met_bounds tiny w us

  abbrev pub add_bound : Float → Window → List Window → ℕ
  add_bound tiny w list = 1 + met_bounds tiny w list
