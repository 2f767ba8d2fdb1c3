-- The window buffer as a list of windows. Its u32 slots are edge, into, flags, link; its f64 slots b0, b1, low and three of the source.
use Rattle.std.specs.Prelude.{ℕ, zero, suc, ◌+◌, ◌*◌, ◌/◌, ◌%◌, min, Bool, true, false, cond, List, [], ◌∷◌, eqb, get_or, set, Float}
use Rattle.std.specs.Float.{nan}
use Rattle.layout.specs.Layout.{words_per_window, window_edge, window_into, window_flags, window_link, line_flag, alive_flag, queued_flag, reals_per_window, window_b0, window_b1, window_low, window_s0, window_s1, window_s2}
use Rattle.buffers.specs.Slots.{slots_of, fill}
use Rattle.source.specs.declared.Src.{Src}
use Rattle.source.specs.declared.Src.TheVariants.{Point, Line}
use Rattle.source.specs.declared.Win.{Win}
use Rattle.windows.specs.declared.WindowRecord.{WindowRecord}

-- 01's count of the window room, of m u32 and n f64: the slots that both have
abbrev pub capacity_of : ℕ → ℕ → ℕ
capacity_of m n = min (slots_of m words_per_window) (slots_of n reals_per_window)

-- a source as its kind and three numbers, in the order of its fields
unfoldable pub is_line : Src → Bool
is_line (Point x y s) = false
is_line (Line ux uy c) = true

unfoldable pub reals_of : Src → List Float
reals_of (Point x y s) = x ∷ y ∷ s ∷ []
reals_of (Line ux uy c) = ux ∷ uy ∷ c ∷ []

abbrev pub src_of : Bool → Float → Float → Float → Src
src_of line s0 s1 s2 = cond line (Line s0 s1 s2) (Point s0 s1 s2)

-- the kind and the flags in one number
abbrev pub flags_of : Bool → Bool → Bool → ℕ
flags_of line alive queued = cond line line_flag 0 + cond alive alive_flag 0 + cond queued queued_flag 0

abbrev pub has_flag : ℕ → ℕ → Bool
has_flag flags v = eqb (flags / v % 2) 1

-- the four u32 of window k
abbrev pub edge_stored : List ℕ → ℕ → ℕ
edge_stored w k = get_or w (words_per_window * k + window_edge) 0

abbrev pub into_of : List ℕ → ℕ → ℕ
into_of w k = get_or w (words_per_window * k + window_into) 0

abbrev pub flags_at : List ℕ → ℕ → ℕ
flags_at w k = get_or w (words_per_window * k + window_flags) 0

abbrev pub link_of : List ℕ → ℕ → ℕ
link_of w k = get_or w (words_per_window * k + window_link) 0

-- the ends, the least value and the source of window k, whose source is a line or else a point
unfoldable pub win_at : Bool → List Float → ℕ → Win
win_at line f k = record {
  b0 = get_or f (reals_per_window * k + window_b0) nan;
  b1 = get_or f (reals_per_window * k + window_b1) nan;
  low = get_or f (reals_per_window * k + window_low) nan;
  src = src_of line (get_or f (reals_per_window * k + window_s0) nan) (get_or f (reals_per_window * k + window_s1) nan) (get_or f (reals_per_window * k + window_s2) nan);
}

-- the window of number k
unfoldable pub window_at : List ℕ → List Float → ℕ → WindowRecord
window_at w f k = record {
  edge = record { 0 = edge_stored w k };
  carried = record { into = record { 0 = into_of w k }; queued = has_flag (flags_at w k) queued_flag };
  alive = has_flag (flags_at w k) alive_flag;
  link = link_of w k;
  win = win_at (has_flag (flags_at w k) line_flag) f k;
}

-- the two slices with window k stored
unfoldable pub words_with : List ℕ → ℕ → WindowRecord → List ℕ
words_with w k x =
    fill words_per_window w k 0 (x.edge.0 ∷ x.carried.into.0 ∷ flags_of (is_line x.win.src) x.alive x.carried.queued ∷ x.link ∷ [])

unfoldable pub reals_with : List Float → ℕ → Win → List Float
reals_with f k x = fill reals_per_window f k 0 (x.b0 ∷ x.b1 ∷ x.low ∷ reals_of x.src)

-- the reals with the ends and the least value of window k stored
unfoldable pub range_with : List Float → ℕ → Float → Float → Float → List Float
range_with f k b0 b1 low = fill reals_per_window f k 0 (b0 ∷ b1 ∷ low ∷ [])

-- the words with the flags of window k stored, and the kind of its source as it was
unfoldable pub flags_with : List ℕ → ℕ → Bool → Bool → List ℕ
flags_with w k alive queued = set w (words_per_window * k + window_flags) (flags_of (has_flag (flags_at w k) line_flag) alive queued)

-- the words with the link of window k stored
abbrev pub link_with : List ℕ → ℕ → ℕ → List ℕ
link_with w k link = set w (words_per_window * k + window_link) link

-- a window with its ends and least value changed
unfoldable pub trimmed_win : Win → Float → Float → Float → Win
trimmed_win x b0 b1 low = record { b0 = b0; b1 = b1; low = low; src = x.src }

unfoldable pub trimmed : WindowRecord → Float → Float → Float → WindowRecord
trimmed x b0 b1 low = record {
  edge = x.edge;
  carried = x.carried;
  alive = x.alive;
  link = x.link;
  win = trimmed_win x.win b0 b1 low;
}

-- a window with its flags changed; with its link
unfoldable pub reflagged : WindowRecord → Bool → Bool → WindowRecord
reflagged x alive queued = record {
  edge = x.edge;
  carried = record { into = x.carried.into; queued = queued };
  alive = alive;
  link = x.link;
  win = x.win;
}

unfoldable pub relinked : WindowRecord → ℕ → WindowRecord
relinked x link = record {
  edge = x.edge;
  carried = x.carried;
  alive = x.alive;
  link = link;
  win = x.win;
}

-- a window that is taken out: it keeps no link
abbrev pub dead : WindowRecord → WindowRecord
dead x = relinked (reflagged x false x.carried.queued) 0

-- one whose event was popped
abbrev pub unqueued_record : WindowRecord → WindowRecord
unqueued_record x = reflagged x x.alive false

-- element k of a list changed
unfoldable pub adjust : {A : Type 0} → ℕ → (A → A) → List A → List A
adjust k g [] = []
adjust zero g (x ∷ l) = g x ∷ l
adjust (suc k) g (x ∷ l) = x ∷ adjust k g l
