-- The windows that live by the words of the window buffer are those of all windows made that live. Assumes nothing.
use Prim.Native.Nat.{ℕ, zero, suc, ◌+◌, ◌*◌, ◌-◌}
use native.Mathlib.Omega.{arith}
use mathlib.Core.Path.{◌≡◌, refl, ap, ◌∙◌}
use mathlib.Core.Bool.{Bool, true, false, cond}
use mathlib.Core.List.{List, [], ◌∷◌, ◌++◌}
use lib.ListN.{length, get_or, replicate}
use Rattle.layout.specs.Layout.{words_per_window, window_flags, alive_flag}
use Rattle.windows.specs.declared.WindowRecord.{WindowRecord}
use Rattle.windows.specs.Windows.{is_line, flags_of, has_flag}
use Rattle.compute.specs.of_trim_model.Windows.{Window}
use Rattle.compute.specs.of_live_windows.Live.{nums}
use Rattle.compute.specs.of_contents.Contents.{link_after, words_from, words_of}
use Rattle.print_out.specs.PrintOut.{is_live, live_count}
use Rattle.slip_program.specs.Program.{alive_count}

alive_flag_lem : (line alive queued : Bool) → has_flag (flags_of line alive queued) alive_flag ≡ alive
alive_flag_lem true true true = refl
alive_flag_lem true true false = refl
alive_flag_lem true false true = refl
alive_flag_lem true false false = refl
alive_flag_lem false true true = refl
alive_flag_lem false true false = refl
alive_flag_lem false false true = refl
alive_flag_lem false false false = refl

-- the words of a first window, and those of the others
module _ (a b c d : ℕ) (rest : List ℕ) where
  behind : (k : ℕ) → is_live (a ∷ b ∷ c ∷ d ∷ rest) (suc k) ≡ is_live rest k
  unfolding is_live
  behind k =
      let place : words_per_window * suc k + window_flags ≡ suc (suc (suc (suc (words_per_window * k + window_flags)))) = omega arith in
      ap (λ (p : ℕ). has_flag (get_or (a ∷ b ∷ c ∷ d ∷ rest) p 0) alive_flag) place

  first_apart : (n : ℕ) → live_count (a ∷ b ∷ c ∷ d ∷ rest) (suc n) ≡ cond (has_flag c alive_flag) 1 0 + live_count rest n
  unfolding live_count is_live
  first_apart zero = omega arith
  first_apart (suc n) = (λ i. first_apart n i + cond (behind n i) 1 0) ∙ omega arith

module _ (live : ℕ → List Window) where
  counts_from : (i : ℕ) (wins : List WindowRecord) (others : List ℕ) → live_count (words_from live i wins ++ others) (length wins) ≡ alive_count wins
  unfolding words_from alive_count live_count
  counts_from i [] others = refl
  counts_from i (x ∷ wins) others =
      first_apart x.edge.0 x.carried.into.0 (flags_of (is_line x.win.src) x.alive x.carried.queued)
      (cond x.alive (link_after i (nums (live x.edge.0))) x.link) (words_from live (suc i) wins ++ others) (length wins)
      ∙ (λ t. cond (alive_flag_lem (is_line x.win.src) x.alive x.carried.queued t) 1 0 + counts_from (suc i) wins others t)

  pub counts_alive : (n : ℕ) (wins : List WindowRecord) → live_count (words_of n wins live) (length wins) ≡ alive_count wins
  counts_alive n wins = counts_from 0 wins (replicate (n - length (words_from live 0 wins)) 0)
