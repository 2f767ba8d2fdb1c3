-- Windows put into their slots in turn. Assumes nothing.
use Prim.Native.Nat.{ℕ, zero, suc, ◌+◌, ◌<◌, ◌≤◌}
use native.Mathlib.Omega.{arith}
use native.Mathlib.Numerals.{add-one}
use mathlib.Core.List.{List}
use mathlib.Core.Path.{◌≡◌, refl, ap, ◌∙◌}
use lib.Ieee.{Float}
use lib.ListN.{length}
use Rattle.layout.specs.Layout.{words_per_window, reals_per_window}
use Rattle.buffers.proofs.Strides.{length_fill}
use Rattle.windows.specs.Windows.{capacity_of, words_with, reals_with}
use Rattle.computed.specs.declared.Field.{Field}
use Rattle.query_rows.specs.of_field_check.FieldCheck.{FieldSlices}
use Rattle.std.specs.declared.result.Result.{Result}
use Rattle.std.specs.declared.result.Result.TheVariants.{Ok, Err}
use Rattle.query_rows.specs.of_queries.declared.ListedWindow.{ListedWindow}
use Rattle.query_rows.specs.of_queries.declared.WindowRefusal.{WindowRefusal}
use Rattle.query_rows.specs.declared.RowRefusal.{RowRefusal}
use Rattle.window_rows.specs.WindowRows.{words_put, reals_put, stored_row, window_asked, window_words_of, window_reals_of, window_result}

module _ {A : Type 0} (put : ℕ → List A → List A) (l : List A) where
  pub stored_start : l ≡ stored_row put 0 l
  unfolding stored_row
  stored_start = refl

  pub stored_next : (k : ℕ) (l₁ l₂ : List A) → l₁ ≡ stored_row put k l → l₂ ≡ put k l₁ → l₂ ≡ stored_row put (k + 1) l
  unfolding stored_row
  stored_next k l₁ l₂ h e = e ∙ rw (add-one k) (ap (put k) h)

  stored_length : ((k : ℕ) (m : List A) → length (put k m) ≡ length m) → (k : ℕ) → length (stored_row put k l) ≡ length l
  unfolding stored_row
  stored_length same zero = refl
  stored_length same (suc k) = same k (stored_row put k l) ∙ stored_length same k

  pub stored_count : (l' : List A) (c d : ℕ) → l' ≡ stored_row put c l → c ≡ d → l' ≡ stored_row put d l
  stored_count l' c d h e = h ∙ ap (λ (k : ℕ). stored_row put k l) e

words_length : (a : Result ListedWindow WindowRefusal) (k : ℕ) (w : List ℕ) → length (words_put a k w) ≡ length w
unfolding words_with
words_length (Err r) k w = refl
words_length (Ok x) k w = length_fill words_per_window _ w k 0

reals_length : (a : Result ListedWindow WindowRefusal) (k : ℕ) (f : List Float) → length (reals_put a k f) ≡ length f
unfolding reals_with
reals_length (Err r) k f = refl
reals_length (Ok x) k f = length_fill reals_per_window _ f k 0

module _ (n : Field) (b : FieldSlices) (edges places : List ℕ) (k : ℕ) where
  pub words_row : (w w' : List ℕ) → w' ≡ stored_row (window_words_of n b edges places) k w → length w' ≡ length w
  words_row w w' h = ap length h ∙ stored_length (window_words_of n b edges places) w (λ i. words_length (window_asked n b edges places i) i) k

  pub reals_row : (f f' : List Float) → f' ≡ stored_row (window_reals_of n b edges places) k f → length f' ≡ length f
  reals_row f f' h = ap length h ∙ stored_length (window_reals_of n b edges places) f (λ i. reals_length (window_asked n b edges places i) i) k

-- slices of the same lengths have the same slots
pub still_there : (i c m m' n n' : ℕ) → i < c → c ≤ capacity_of m n → m' ≡ m → n' ≡ n → i < capacity_of m' n'
still_there i c m m' n n' h k e d = rw (e, d) (omega (arith, h, k))

pub result_is : (r : Result (Unit {0}) RowRefusal) (ns ns' is is' w w' : List ℕ) (f f' : List Float) → ns ≡ ns' → is ≡ is' → w ≡ w' → f ≡ f' → window_result r ns is w f ≡ window_result r ns' is' w' f'
result_is r ns ns' is is' w w' f f' a b c d = λ i. window_result r (a i) (b i) (c i) (d i)
