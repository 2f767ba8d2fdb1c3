-- No flag word gets a bit above the three that are read. Assumes nothing.
use Prim.Native.Nat.{ℕ, zero, suc, ◌+◌, ◌*◌, ◌≤◌, ◌<◌}
use native.Mathlib.Omega.{arith}
use native.Mathlib.Decide.{ℕ_discrete}
use mathlib.Core.Bool.{Bool}
use mathlib.Core.List.{List}
use mathlib.Core.Path.{◌≡◌, refl, sym, ap, subst, ◌∙◌}
use lib.ListN.{length, set, get_or}
use lib.Seq.{get_or-set_same}
use Rattle.layout.specs.Layout.{words_per_window, window_flags, window_link, line_flag}
use Rattle.buffers.proofs.Strides.{slot_at, fill_same, other_fields, other_slot}
use Rattle.windows.specs.declared.WindowRecord.{WindowRecord}
use Rattle.windows.specs.Windows.{is_line, flags_of, has_flag, flags_at, words_with, flags_with}
use Rattle.windows.proofs.WindowList.{weight_le, stored_other}
use Rattle.chains.specs.Chains.{Links, with_link}
use Rattle.live_windows.specs.Live.{FewFlags}

flags_few : (line alive queued : Bool) → flags_of line alive queued < 8
flags_few line alive queued = omega (arith, weight_le line 1, weight_le alive 2, weight_le queued 4)

few_link : (n : ℕ) (w : List ℕ) (k v : ℕ) → FewFlags n w → FewFlags n (set w (words_per_window * k + window_link) v)
few_link n w k v h i l = subst (λ z. z < 8) (sym (other_fields words_per_window w k i window_link window_flags v 0 (λ z. omega (arith, z)) (omega arith) (omega arith))) (h i l)

pub few_with : (n : ℕ) (b : Links) (e k v : ℕ) → FewFlags n b.words → FewFlags n (with_link b e k v).words
unfolding with_link
few_with n b e zero v h = h
few_with n b e (suc k) v h = few_link n b.words k v h

pub few_flags : (n : ℕ) (w : List ℕ) (k : ℕ) (alive queued : Bool) → words_per_window * k + words_per_window ≤ length w → FewFlags n w → FewFlags n (flags_with w k alive queued)
unfolding flags_with
few_flags n w k alive queued p h i l = go (ℕ_discrete k i) where
  v : ℕ
  v = flags_of (has_flag (flags_at w k) line_flag) alive queued

  go : Dec (k ≡ i) → flags_at (set w (words_per_window * k + window_flags) v) i < 8
  go (yes d) = subst (λ j. get_or (set w (words_per_window * k + window_flags) v) (words_per_window * j + window_flags) 0 < 8) d (subst (λ z. z < 8) (sym (get_or-set_same w (words_per_window * k + window_flags) v 0 (omega (arith, p)))) (flags_few (has_flag (flags_at w k) line_flag) alive queued))
  go (no d) = subst (λ z. z < 8) (sym (other_slot words_per_window w k i window_flags window_flags v 0 d (omega arith) (omega arith))) (h i l)

pub few_zeroed : (n : ℕ) (w : List ℕ) (k : ℕ) → FewFlags n w → FewFlags n (set w (words_per_window * k + window_link) 0)
few_zeroed n w k = few_link n w k 0

pub few_stored : (n : ℕ) (w : List ℕ) (x : WindowRecord) → words_per_window * n + words_per_window ≤ length w → FewFlags n w → FewFlags (suc n) (words_with w n x)
unfolding words_with
few_stored n w x p h i l = go (ℕ_discrete n i) where
  z : ℕ
  z = flags_of (is_line x.win.src) x.alive x.carried.queued

  go : Dec (n ≡ i) → flags_at (words_with w n x) i < 8
  go (yes d) =
      let e : flags_at (words_with w n x) n ≡ z = sym (slot_at words_per_window (words_with w n x) n window_flags 0 (omega arith)) ∙ ap (λ s. get_or s window_flags 0) (fill_same words_per_window w n _ refl p) in
      subst (λ j. flags_at (words_with w n x) j < 8) d (subst (λ y. y < 8) (sym e) (flags_few (is_line x.win.src) x.alive x.carried.queued))
  go (no d) =
      let e : flags_at (words_with w n x) i ≡ flags_at w i = sym (slot_at words_per_window (words_with w n x) i window_flags 0 (omega arith)) ∙ ap (λ s. get_or s window_flags 0) (stored_other w n x i d) ∙ slot_at words_per_window w i window_flags 0 (omega arith) in
      subst (λ y. y < 8) (sym e) (h i (omega (arith, d, l)))
