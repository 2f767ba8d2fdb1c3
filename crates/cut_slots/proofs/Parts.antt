-- The parts of the cut buffers that are used: as many slots of each as all four have. Assumes nothing.
use Prim.Native.Nat.{ℕ, ◌+◌, ◌*◌, ◌≤◌, ◌<◌, min}
use mathlib.Core.Path.{◌≡◌}
use native.Mathlib.Omega.{arith}
use lib.ListN.{length, take}
use lib.Seq.{length-take-le}
use Rattle.buffers.specs.Slots.{slots_of}
use Rattle.cut_lists.specs.Buffers.{Cuts}
use Rattle.cut_lists.specs.Cut.{Sizes}
use Rattle.cut_slots.specs.Slots.{cut_count}

pub least_left : (x y a b : ℕ) → a ≡ x → b ≡ y → a ≤ b → a ≡ min x y
least_left x y a b h k l = omega (arith, h, k, l)

pub least_right : (x y a b : ℕ) → a ≡ x → b ≡ y → b < a → b ≡ min x y
least_right x y a b h k l = omega (arith, h, k, l)

-- the least of four is no more than each
least_first : (a b c d x : ℕ) → x ≡ min (min a b) (min c d) → x ≤ a
least_first a b c d x h = omega (arith, h)

least_second : (a b c d x : ℕ) → x ≡ min (min a b) (min c d) → x ≤ b
least_second a b c d x h = omega (arith, h)

least_third : (a b c d x : ℕ) → x ≡ min (min a b) (min c d) → x ≤ c
least_third a b c d x h = omega (arith, h)

least_fourth : (a b c d x : ℕ) → x ≡ min (min a b) (min c d) → x ≤ d
least_fourth a b c d x h = omega (arith, h)

one_slot : (x n : ℕ) → x ≤ slots_of n 1 → x ≤ n
one_slot x n h = omega (arith, h)

two_slots : (x n : ℕ) → x ≤ slots_of n 2 → 2 * x ≤ n
two_slots x n h = omega (arith, h)

pub pts_fit : (c : Cuts) (x : ℕ) → x ≡ cut_count c → x ≤ length c.pts
pts_fit c x h = one_slot x (length c.pts) (least_first (slots_of (length c.pts) 1) (slots_of (length c.out) 2) (slots_of (length c.keep) 2) (slots_of (length c.next) 2) x h)

pub out_fit : (c : Cuts) (x : ℕ) → x ≡ cut_count c → 2 * x ≤ length c.out
out_fit c x h = two_slots x (length c.out) (least_second (slots_of (length c.pts) 1) (slots_of (length c.out) 2) (slots_of (length c.keep) 2) (slots_of (length c.next) 2) x h)

pub keep_fit : (c : Cuts) (x : ℕ) → x ≡ cut_count c → 2 * x ≤ length c.keep
keep_fit c x h = two_slots x (length c.keep) (least_third (slots_of (length c.pts) 1) (slots_of (length c.out) 2) (slots_of (length c.keep) 2) (slots_of (length c.next) 2) x h)

pub next_fit : (c : Cuts) (x : ℕ) → x ≡ cut_count c → 2 * x ≤ length c.next
next_fit c x h = two_slots x (length c.next) (least_fourth (slots_of (length c.pts) 1) (slots_of (length c.out) 2) (slots_of (length c.keep) 2) (slots_of (length c.next) 2) x h)

twice : (x a b : ℕ) → a ≡ 2 * x → b ≡ x → a ≡ b + b
twice x a b h k = omega (arith, h, k)

module _ (c : Cuts) (x : ℕ) (is : x ≡ cut_count c) where
  pub pts_length : length (take x c.pts) ≡ x
  pts_length = length-take-le x c.pts (pts_fit c x is)

  pub parts_sizes : Sizes (length (take x c.pts)) (take (2 * x) c.out) (take (2 * x) c.keep) (take (2 * x) c.next)
  parts_sizes = record {
    outs = twice x _ _ (length-take-le (2 * x) c.out (out_fit c x is)) pts_length;
    keeps = twice x _ _ (length-take-le (2 * x) c.keep (keep_fit c x is)) pts_length;
    nexts = twice x _ _ (length-take-le (2 * x) c.next (next_fit c x is)) pts_length;
  }
