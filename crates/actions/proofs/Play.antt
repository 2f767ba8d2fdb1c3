-- Actions played one after the other: a list is played in two parts, and the first that is stopped stops all. Assumes nothing.
use Prim.Native.Nat.{ℕ}
use mathlib.Core.List.{List, [], ◌∷◌, ◌++◌}
use mathlib.Core.Path.{◌≡◌, refl, ap, ◌∙◌}
use lib.Ieee.{Float}
use Rattle.windows.specs.declared.WindowRecord.{WindowRecord}
use Rattle.actions.specs.Actions.{Action, Stock, Outcome, stopped, went, and_then, wins_with, wins_after, act, play}

-- three things done in turn
then_then : (o : Outcome) (f g : Stock → Outcome) → and_then o (λ (s : Stock). and_then (f s) g) ≡ and_then (and_then o f) g
unfolding and_then
then_then (stopped n) f g = refl
then_then (went s) f g = refl

-- no action changes no window
pub wins_none : (wins : List WindowRecord) → wins_after [] wins ≡ wins
unfolding wins_after
wins_none wins = refl

-- windows made by two lists of actions, one after the other
pub wins_append : (xs ys : List Action) (wins : List WindowRecord) → wins_after (xs ++ ys) wins ≡ wins_after ys (wins_after xs wins)
unfolding wins_after
wins_append [] ys wins = refl
wins_append (a ∷ xs) ys wins = wins_append xs ys (wins_with a wins)

module _ (cuts windows : ℕ) (limit : Float) (flags : List ℕ) where
  abbrev played : List Action → Stock → Outcome
  played = play cuts windows limit flags

  -- two lists, one after the other
  pub play_append : (xs ys : List Action) (s : Stock) → played (xs ++ ys) s ≡ and_then (played xs s) (played ys)
  unfolding play
  play_append [] ys s = refl
  play_append (a ∷ xs) ys s =
      ap (and_then (act cuts windows limit flags a s)) (λ i t. play_append xs ys t i)
      ∙ then_then (act cuts windows limit flags a s) (played xs) (played ys)

  -- nothing to do
  pub play_nil : (s : Stock) → played [] s ≡ went s
  unfolding play
  play_nil s = refl

  -- the first action is stopped
  pub play_stop : (a : Action) (rest : List Action) (s : Stock) (n : ℕ) → act cuts windows limit flags a s ≡ stopped n → played (a ∷ rest) s ≡ stopped n
  unfolding play
  play_stop a rest s n h = ap (λ (o : Outcome). and_then o (played rest)) h

  -- the first action goes through
  pub play_go : (a : Action) (rest : List Action) (s t : Stock) → act cuts windows limit flags a s ≡ went t → played (a ∷ rest) s ≡ played rest t
  unfolding play
  play_go a rest s t h = ap (λ (o : Outcome). and_then o (played rest)) h

  -- a first part is stopped
  pub play_stop_append : (xs ys : List Action) (s : Stock) (n : ℕ) → played xs s ≡ stopped n → played (xs ++ ys) s ≡ stopped n
  unfolding and_then
  play_stop_append xs ys s n h = play_append xs ys s ∙ ap (λ (o : Outcome). and_then o (played ys)) h

  -- a first part goes through
  pub play_go_append : (xs ys : List Action) (s t : Stock) → played xs s ≡ went t → played (xs ++ ys) s ≡ played ys t
  unfolding and_then
  play_go_append xs ys s t h = play_append xs ys s ∙ ap (λ (o : Outcome). and_then o (played ys)) h
