-- The operations of a list, as they stand in lent slices. Definitions only.
-- An operation has four u32: its kind, its edge or vertex, the face that a candidate goes into, whether a candidate is queued; and five f64: a candidate's ends and the
-- three numbers of its source, or the distance of a touch.
use Prim.Native.Nat.{ℕ, zero, suc, ◌+◌, ◌*◌}
use Rattle.std.specs.Prelude.{Bool, cond, T, eqb, get_or, Float}
use mathlib.Core.List.{List, [], ◌∷◌, ◌++◌}
use Rattle.std.specs.Float.{nan, binary64}
use Rattle.std.specs.Float.Ieee.{fits}
use Rattle.layout.specs.Layout.{words_per_operation, operation_kind, operation_number, operation_into, operation_queued, reals_per_operation, operation_b0, operation_b1, operation_s0, operation_s1, operation_s2}
use Rattle.source.specs.declared.Src.{Src}
use Rattle.source.specs.declared.Src.TheVariants.{Point, Line}
use Rattle.windows.specs.Windows.{src_of}
use Rattle.pop.specs.of_trim_model.Model.{Candidate}
use Rattle.windows.specs.declared.NewWindow.{NewWindow}
use Rattle.trim_operations.specs.declared.Op.{Op}
use Rattle.trim_operations.specs.declared.Op.TheVariants.{Add, Pop, Touch, Unknown}

pub data Operation : Type 0 where
  add : Candidate → Operation  -- kind 0, from a point, or 1, from a line
  pop : Operation  -- kind 2
  touch : ℕ → Float → Operation  -- kind 3
  unknown : Operation  -- any other

-- a window to be added to edge e, as the model has it
abbrev pub as_candidate : ℕ → NewWindow → Candidate
as_candidate e w = record { edge = e; b0 = w.b0; b1 = w.b1; src = w.src; carried = w.carried }

abbrev pub operation_word : List ℕ → ℕ → ℕ → ℕ
operation_word words k a = get_or words (words_per_operation * k + a) 0

abbrev pub real_at : List Float → ℕ → ℕ → Float
real_at reals k a = get_or reals (reals_per_operation * k + a) nan

abbrev pub is_queued : List ℕ → ℕ → Bool
is_queued words k = eqb (operation_word words k operation_queued) 1

module _ (words : List ℕ) (reals : List Float) where
  abbrev word : ℕ → ℕ → ℕ
  word = operation_word words

  abbrev real : ℕ → ℕ → Float
  real = real_at reals

  abbrev pub new_window_at : ℕ → Src → NewWindow
  new_window_at k s = record { b0 = real k operation_b0; b1 = real k operation_b1; src = s; carried = record { into = record { 0 = word k operation_into }; queued = is_queued words k } }

  abbrev pub candidate_at : ℕ → Src → Candidate
  candidate_at k s = as_candidate (word k operation_number) (new_window_at k s)

  unfoldable pub operation_at : ℕ → Operation
  operation_at k =
      cond (eqb (word k operation_kind) 0) (add (candidate_at k (Point (real k operation_s0) (real k operation_s1) (real k operation_s2))))
      (cond (eqb (word k operation_kind) 1) (add (candidate_at k (Line (real k operation_s0) (real k operation_s1) (real k operation_s2))))
      (cond (eqb (word k operation_kind) 2) pop
      (cond (eqb (word k operation_kind) 3) (touch (word k operation_number) (real k operation_b0))
      unknown)))

  -- the first n of them
  unfoldable pub operations : ℕ → List Operation
  unfolding operation_at
  operations zero = []
  operations (suc n) = operations n ++ (operation_at n ∷ [])

-- the candidates among them
unfoldable pub candidates_of : Operation → List Candidate
candidates_of (add c) = c ∷ []
candidates_of pop = []
candidates_of (touch v d) = []
candidates_of unknown = []

unfoldable pub candidates : List Operation → List Candidate
unfolding candidates_of
candidates [] = []
candidates (o ∷ ops) = candidates_of o ++ candidates ops

-- ---- an operation that was read
-- the source of a candidate, from a line or else a point
abbrev pub source_at : List Float → ℕ → Bool → Src
source_at reals k line = src_of line (real_at reals k operation_s0) (real_at reals k operation_s1) (real_at reals k operation_s2)

abbrev pub as_operation : Op → Operation
as_operation (Add e w) = add (as_candidate e.0 w)
as_operation Pop = pop
as_operation (Touch v d) = touch v.0 d
as_operation Unknown = unknown

-- the numbers of a candidate and its edge are doubles, as those that slices hold are
pub record Doubles (len : ℕ → Float) (c : Candidate) : Type 0 where
  pub start : T (fits binary64 c.b0)
  pub end : T (fits binary64 c.b1)
  pub length : T (fits binary64 (len c.edge))

-- and so are those of an operation
abbrev pub DoublesOf : (ℕ → Float) → Operation → Type 0
DoublesOf len (add c) = Doubles len c
DoublesOf len pop = Unit {0}
DoublesOf len (touch v d) = Unit {0}
DoublesOf len unknown = Unit {0}
