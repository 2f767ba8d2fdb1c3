-- An operation that was read, by its kind. Assumes nothing.
use Prim.Native.Nat.{ℕ}
use mathlib.Core.Bool.{true, false}
use mathlib.Core.List.{List}
use mathlib.Core.Logic.{◌≢◌}
use mathlib.Core.Path.{◌≡◌, sym, ap, ◌∙◌}
use borrow.Author.Tests.{eq-eqb, ne_eqb}
use lib.Dec.{eqb}
use lib.Ieee.{Float}
use Rattle.layout.specs.Layout.{operation_kind, operation_number, operation_b0}
use Rattle.source.specs.declared.Src.{Src}
use Rattle.windows.specs.declared.NewWindow.{NewWindow}
use Rattle.pop.specs.of_trim_model.Model.{Candidate}
use Rattle.trim_operations.specs.Operations.{add, pop, touch, unknown, operation_word, real_at, as_candidate, new_window_at, candidate_at, source_at, operation_at}

-- an edge and a window that were read
pub read_candidate : (words : List ℕ) (reals : List Float) (k e : ℕ) (w : NewWindow) (src : Src) → e ≡ operation_word words k operation_number → w ≡ new_window_at words reals k src → as_candidate e w ≡ candidate_at words reals k src
read_candidate words reals k e w src h d = ap (λ n. as_candidate n w) h ∙ ap (as_candidate (operation_word words k operation_number)) d

module _ (words : List ℕ) (reals : List Float) (k kind : ℕ) (is : kind ≡ operation_word words k operation_kind) where
  -- the tests of the kind, in their order
  test : (n : ℕ) → kind ≡ n → eqb (operation_word words k operation_kind) n ≡ true
  test n h = eq-eqb (operation_word words k operation_kind) n (sym is ∙ h)

  other : (n : ℕ) → kind ≢ n → eqb (operation_word words k operation_kind) n ≡ false
  other n h = ne_eqb (operation_word words k operation_kind) n (λ d. h (is ∙ d))

  pub read_point : kind ≡ 0 → (c : Candidate) → c ≡ candidate_at words reals k (source_at reals k false) → add c ≡ operation_at words reals k
  unfolding operation_at
  read_point h c d = rw (test 0 h) (ap add d)

  module _ (not0 : kind ≢ 0) where
    pub read_line : kind ≡ 1 → (c : Candidate) → c ≡ candidate_at words reals k (source_at reals k true) → add c ≡ operation_at words reals k
    unfolding operation_at
    read_line h c d = rw (other 0 not0, test 1 h) (ap add d)

    module _ (not1 : kind ≢ 1) where
      pub read_pop : kind ≡ 2 → pop ≡ operation_at words reals k
      unfolding operation_at
      read_pop h = rw (other 0 not0, other 1 not1, test 2 h)

      module _ (not2 : kind ≢ 2) where
        pub read_touch : kind ≡ 3 → (v : ℕ) (d : Float) → v ≡ operation_word words k operation_number → d ≡ real_at reals k operation_b0 → touch v d ≡ operation_at words reals k
        unfolding operation_at
        read_touch h v d i j = rw (other 0 not0, other 1 not1, other 2 not2, test 3 h, i, j)

        pub read_unknown : kind ≢ 3 → unknown ≡ operation_at words reals k
        unfolding operation_at
        read_unknown h = rw (other 0 not0, other 1 not1, other 2 not2, other 3 h)
