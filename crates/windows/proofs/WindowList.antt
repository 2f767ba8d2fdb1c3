-- The laws that make the window buffer a list of windows.
use Prim.Native.Nat.{ℕ, suc, ◌+◌, ◌*◌, ◌<◌, ◌≤◌}
use native.Mathlib.Omega.{arith}
use mathlib.Core.Bool.{Bool, true, false, cond}
use mathlib.Core.Path.{◌≡◌, refl, sym, ap, ◌∙◌}
use mathlib.Core.List.{List, [], ◌∷◌}
use mathlib.Core.Logic.{◌≢◌}
use lib.ListN.{length, get_or, set}
use lib.Ieee.{Float, nan}
use Rattle.layout.specs.Layout.{words_per_window, window_edge, window_into, window_flags, window_link, line_flag, alive_flag, queued_flag, reals_per_window, window_b0, window_b1, window_low, window_s0, window_s1, window_s2}
use Rattle.buffers.specs.Slots.{slot}
use Rattle.buffers.proofs.Strides.{in_slots, slot_at, slot_set_same, slot_set_other, length_slot, length_fill, fill_sets, fill_same, fill_other}
use Rattle.windows.specs.declared.WindowRecord.{WindowRecord}
use Rattle.source.specs.declared.Src.{Src}
use Rattle.source.specs.declared.Src.TheVariants.{Point, Line}
use Rattle.source.specs.declared.Win.{Win}
use Rattle.windows.specs.Windows.{capacity_of, is_line, reals_of, src_of, flags_of, has_flag, win_at, window_at, words_with, reals_with, range_with, flags_with, trimmed_win, trimmed, reflagged, relinked}

pub weight_le : (b : Bool) (v : ℕ) → cond b v 0 ≤ v
weight_le true v = omega arith
weight_le false v = omega arith

-- a window that is counted has its slot in both slices
pub counted : (k m n : ℕ) → k < capacity_of m n → (words_per_window * k + words_per_window ≤ m) × (reals_per_window * k + reals_per_window ≤ n)
counted k m n h = (in_slots m words_per_window k (omega arith), in_slots n reals_per_window k (omega arith))

-- a source is read as it was stored
source_same : (s : Src) → src_of (is_line s) (get_or (reals_of s) 0 nan) (get_or (reals_of s) 1 nan) (get_or (reals_of s) 2 nan) ≡ s
unfolding is_line reals_of
source_same (Point x y s) = refl
source_same (Line ux uy c) = refl

pub length_reals_of : (s : Src) → length (reals_of s) ≡ 3
unfolding reals_of
length_reals_of (Point x y s) = refl
length_reals_of (Line ux uy c) = refl

-- ---- a window is what its two slots say
unfoldable decode_win : Bool → List Float → Win
decode_win line f = record {
  b0 = get_or f window_b0 nan;
  b1 = get_or f window_b1 nan;
  low = get_or f window_low nan;
  src = src_of line (get_or f window_s0 nan) (get_or f window_s1 nan) (get_or f window_s2 nan);
}

unfoldable decode : List ℕ → List Float → WindowRecord
decode w f = record {
  edge = record { 0 = get_or w window_edge 0 };
  carried = record { into = record { 0 = get_or w window_into 0 }; queued = has_flag (get_or w window_flags 0) queued_flag };
  alive = has_flag (get_or w window_flags 0) alive_flag;
  link = get_or w window_link 0;
  win = decode_win (has_flag (get_or w window_flags 0) line_flag) f;
}

win_by_slot : (line : Bool) (f : List Float) (k : ℕ) → win_at line f k ≡ decode_win line (slot reals_per_window f k)
unfolding win_at decode_win
win_by_slot line f k =
    let real : (a : ℕ) → a < reals_per_window → get_or f (reals_per_window * k + a) nan ≡ get_or (slot reals_per_window f k) a nan = λ a h. sym (slot_at reals_per_window f k a nan h) in
    λ t. record {
      b0 = real window_b0 (omega arith) t;
      b1 = real window_b1 (omega arith) t;
      low = real window_low (omega arith) t;
      src = src_of line (real window_s0 (omega arith) t) (real window_s1 (omega arith) t) (real window_s2 (omega arith) t);
    }

by_slots : (w : List ℕ) (f : List Float) (k : ℕ) → window_at w f k ≡ decode (slot words_per_window w k) (slot reals_per_window f k)
unfolding window_at decode
by_slots w f k =
    let word : (a : ℕ) → a < words_per_window → get_or w (words_per_window * k + a) 0 ≡ get_or (slot words_per_window w k) a 0 = λ a h. sym (slot_at words_per_window w k a 0 h) in
    λ t. record {
      edge = record { 0 = word window_edge (omega arith) t };
      carried = record { into = record { 0 = word window_into (omega arith) t }; queued = has_flag (word window_flags (omega arith) t) queued_flag };
      alive = has_flag (word window_flags (omega arith) t) alive_flag;
      link = word window_link (omega arith) t;
      win = win_by_slot (has_flag (word window_flags (omega arith) t) line_flag) f k t;
    }

-- one field of a window, where the whole is not wanted
module _ (w : List ℕ) (f : List Float) (k : ℕ) where
  pub edge_is : (window_at w f k).edge.0 ≡ get_or w (words_per_window * k + window_edge) 0
  unfolding window_at
  edge_is = refl

  pub link_is : (window_at w f k).link ≡ get_or w (words_per_window * k + window_link) 0
  unfolding window_at
  link_is = refl

  pub b0_is : (window_at w f k).win.b0 ≡ get_or f (reals_per_window * k + window_b0) nan
  unfolding window_at win_at
  b0_is = refl

  pub b1_is : (window_at w f k).win.b1 ≡ get_or f (reals_per_window * k + window_b1) nan
  unfolding window_at win_at
  b1_is = refl

-- the flags are read as they were put together
decoded : (line alive queued : Bool) → (has_flag (flags_of line alive queued) line_flag ≡ line) × ((has_flag (flags_of line alive queued) alive_flag ≡ alive) × (has_flag (flags_of line alive queued) queued_flag ≡ queued))
decoded false false false = (refl, (refl, refl))
decoded false false true = (refl, (refl, refl))
decoded false true false = (refl, (refl, refl))
decoded false true true = (refl, (refl, refl))
decoded true false false = (refl, (refl, refl))
decoded true false true = (refl, (refl, refl))
decoded true true false = (refl, (refl, refl))
decoded true true true = (refl, (refl, refl))

-- ---- the words after a store
module _ (w : List ℕ) (k : ℕ) (x : WindowRecord) where
  pub length_stored : length (words_with w k x) ≡ length w
  unfolding words_with
  length_stored = length_fill words_per_window _ w k 0

  pub stored_other : (j : ℕ) → k ≢ j → slot words_per_window (words_with w k x) j ≡ slot words_per_window w j
  unfolding words_with
  stored_other j ne = fill_other words_per_window _ w k j 0 ne (omega arith)

  pub stored_edge : words_per_window * k + words_per_window ≤ length w → get_or (words_with w k x) (words_per_window * k + window_edge) 0 ≡ x.edge.0
  unfolding words_with
  stored_edge h = sym (slot_at words_per_window (words_with w k x) k window_edge 0 (omega arith)) ∙ ap (λ s. get_or s window_edge 0) (fill_same words_per_window w k _ refl h)

-- ---- a load after a store
module _ (w : List ℕ) (f : List Float) (k : ℕ) (x : WindowRecord) where
  pub load_same : words_per_window * k + words_per_window ≤ length w → reals_per_window * k + reals_per_window ≤ length f → window_at (words_with w k x) (reals_with f k x.win) k ≡ x
  unfolding words_with reals_with decode decode_win
  load_same p q =
      let d = decoded (is_line x.win.src) x.alive x.carried.queued in
      let r = reals_of x.win.src in
      let line = ap (λ b. src_of b (get_or r 0 nan) (get_or r 1 nan) (get_or r 2 nan)) d.0 ∙ source_same x.win.src in
      by_slots (words_with w k x) (reals_with f k x.win) k
      ∙ ap (λ s. decode s (slot reals_per_window (reals_with f k x.win) k)) (fill_same words_per_window w k _ refl p)
      ∙ ap (decode (x.edge.0 ∷ x.carried.into.0 ∷ flags_of (is_line x.win.src) x.alive x.carried.queued ∷ x.link ∷ []))
      (fill_same reals_per_window f k _ (ap (λ n. suc (suc (suc n))) (length_reals_of x.win.src)) q)
      ∙ (λ t. record {
        edge = x.edge;
        carried = record { into = x.carried.into; queued = d.1.1 t };
        alive = d.1.0 t;
        link = x.link;
        win = record { b0 = x.win.b0; b1 = x.win.b1; low = x.win.low; src = line t };
      })

  pub load_other : (j : ℕ) → k ≢ j → window_at (words_with w k x) (reals_with f k x.win) j ≡ window_at w f j
  unfolding words_with reals_with
  load_other j ne =
      by_slots (words_with w k x) (reals_with f k x.win) j
      ∙ ap (λ s. decode s (slot reals_per_window (reals_with f k x.win) j)) (stored_other w k x j ne)
      ∙ ap (decode (slot words_per_window w j)) (fill_other reals_per_window _ f k j 0 ne (rw (length_reals_of x.win.src) (omega arith)))
      ∙ sym (by_slots w f j)

-- a trim changes the ends and the least value of its window alone
decode_trim : (w : List ℕ) (p : List Float) (b0 b1 low : Float) → 3 ≤ length p → decode w (set (set (set p window_b0 b0) window_b1 b1) window_low low) ≡ trimmed (decode w p) b0 b1 low
unfolding decode decode_win trimmed trimmed_win
decode_trim w [] b0 b1 low h = absurd (omega arith)
decode_trim w (x ∷ []) b0 b1 low h = absurd (omega arith)
decode_trim w (x ∷ y ∷ []) b0 b1 low h = absurd (omega arith)
decode_trim w (x ∷ y ∷ z ∷ p) b0 b1 low h = refl

module _ (w : List ℕ) (f : List Float) (k : ℕ) (b0 b1 low : Float) where
  pub trim_same : reals_per_window * k + reals_per_window ≤ length f → window_at w (range_with f k b0 b1 low) k ≡ trimmed (window_at w f k) b0 b1 low
  unfolding range_with
  trim_same p =
      by_slots w (range_with f k b0 b1 low) k
      ∙ ap (decode (slot words_per_window w k)) (fill_sets reals_per_window (b0 ∷ b1 ∷ low ∷ []) f k 0 (omega arith))
      ∙ decode_trim (slot words_per_window w k) (slot reals_per_window f k) b0 b1 low (rw (length_slot reals_per_window f k p) (omega arith))
      ∙ ap (λ x. trimmed x b0 b1 low) (sym (by_slots w f k))

  pub trim_other : (j : ℕ) → k ≢ j → window_at w (range_with f k b0 b1 low) j ≡ window_at w f j
  unfolding range_with
  trim_other j ne =
      by_slots w (range_with f k b0 b1 low) j ∙ ap (decode (slot words_per_window w j)) (fill_other reals_per_window (b0 ∷ b1 ∷ low ∷ []) f k j 0 ne (omega arith)) ∙ sym (by_slots w f j)

-- a change of flags changes those flags alone
decode_flags : (p : List ℕ) (f : List Float) (alive queued : Bool) → 3 ≤ length p → decode (set p window_flags (flags_of (has_flag (get_or p window_flags 0) line_flag) alive queued)) f ≡ reflagged (decode p f) alive queued
unfolding decode reflagged
decode_flags [] f alive queued h = absurd (omega arith)
decode_flags (x ∷ []) f alive queued h = absurd (omega arith)
decode_flags (x ∷ y ∷ []) f alive queued h = absurd (omega arith)
decode_flags (x ∷ y ∷ z ∷ p) f alive queued h =
    let d = decoded (has_flag z line_flag) alive queued in
    λ t. record {
      edge = record { 0 = x };
      carried = record { into = record { 0 = y }; queued = d.1.1 t };
      alive = d.1.0 t;
      link = get_or p 0 0;
      win = decode_win (d.0 t) f;
    }

module _ (w : List ℕ) (f : List Float) (k : ℕ) (alive queued : Bool) where
  pub flags_same : words_per_window * k + words_per_window ≤ length w → window_at (flags_with w k alive queued) f k ≡ reflagged (window_at w f k) alive queued
  unfolding flags_with
  flags_same p =
      let line = has_flag (get_or w (words_per_window * k + window_flags) 0) line_flag in
      by_slots (flags_with w k alive queued) f k
      ∙ ap (λ s. decode s (slot reals_per_window f k)) (slot_set_same words_per_window w k window_flags (flags_of line alive queued) (omega arith))
      ∙ ap (λ z. decode (set (slot words_per_window w k) window_flags (flags_of (has_flag z line_flag) alive queued)) (slot reals_per_window f k)) (sym (slot_at words_per_window w k window_flags 0 (omega arith)))
      ∙ decode_flags (slot words_per_window w k) (slot reals_per_window f k) alive queued (rw (length_slot words_per_window w k p) (omega arith))
      ∙ ap (λ x. reflagged x alive queued) (sym (by_slots w f k))

  pub flags_other : (j : ℕ) → k ≢ j → window_at (flags_with w k alive queued) f j ≡ window_at w f j
  unfolding flags_with
  flags_other j ne =
      by_slots (flags_with w k alive queued) f j
      ∙ ap (λ s. decode s (slot reals_per_window f j)) (slot_set_other words_per_window w k j window_flags (flags_of (has_flag (get_or w (words_per_window * k + window_flags) 0) line_flag) alive queued) ne (omega arith))
      ∙ sym (by_slots w f j)

-- a change of a link changes that link alone
decode_link : (p : List ℕ) (f : List Float) (v : ℕ) → 4 ≤ length p → decode (set p window_link v) f ≡ relinked (decode p f) v
unfolding decode relinked
decode_link [] f v h = absurd (omega arith)
decode_link (x ∷ []) f v h = absurd (omega arith)
decode_link (x ∷ y ∷ []) f v h = absurd (omega arith)
decode_link (x ∷ y ∷ z ∷ []) f v h = absurd (omega arith)
decode_link (x ∷ y ∷ z ∷ t ∷ p) f v h = refl

module _ (w : List ℕ) (f : List Float) (k v : ℕ) where
  pub link_same : words_per_window * k + words_per_window ≤ length w → window_at (set w (words_per_window * k + window_link) v) f k ≡ relinked (window_at w f k) v
  link_same p =
      by_slots (set w (words_per_window * k + window_link) v) f k
      ∙ ap (λ s. decode s (slot reals_per_window f k)) (slot_set_same words_per_window w k window_link v (omega arith))
      ∙ decode_link (slot words_per_window w k) (slot reals_per_window f k) v (rw (length_slot words_per_window w k p) (omega arith))
      ∙ ap (λ x. relinked x v) (sym (by_slots w f k))

  pub link_other : (j : ℕ) → k ≢ j → window_at (set w (words_per_window * k + window_link) v) f j ≡ window_at w f j
  link_other j ne =
      by_slots (set w (words_per_window * k + window_link) v) f j ∙ ap (λ s. decode s (slot reals_per_window f j)) (slot_set_other words_per_window w k j window_link v ne (omega arith)) ∙ sym (by_slots w f j)
