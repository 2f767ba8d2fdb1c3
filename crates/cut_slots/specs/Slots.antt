-- The slots of the cut buffers, 01's room for cuts: one number in `pts` and two in each of the others. Definitions only.
use Rattle.std.specs.Prelude.{ℕ, ◌*◌, min, length, take}
use Rattle.buffers.specs.Slots.{slots_of}
use Rattle.cut_lists.specs.Buffers.{Cuts, cut_buffers}

-- how many all four have
abbrev pub cut_count : Cuts → ℕ
cut_count c = min (min (slots_of (length c.pts) 1) (slots_of (length c.out) 2)) (min (slots_of (length c.keep) 2) (slots_of (length c.next) 2))

-- the first x slots of each
abbrev pub cut_to : ℕ → Cuts → Cuts
cut_to x c = cut_buffers (take x c.pts) (take (2 * x) c.out) (take (2 * x) c.keep) (take (2 * x) c.next)
