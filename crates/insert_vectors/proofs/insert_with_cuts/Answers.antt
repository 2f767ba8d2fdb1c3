-- `insert_vectors::insert_with_cuts` is safe and ends. Assumes nothing.
use mathlib.Core.Path.{◌≡◌, sym}
use mathlib.Core.List.{List}
use Prim.Native.Nat.{ℕ, ◌+◌, ◌*◌, ◌≤◌}
use lib.Ieee.{Float}
use lib.ListN.{length, take}
use lib.Seq.{length-take-le}
use native.Mathlib.Omega.{arith}
use borrow.Author.Rules.{rules}
use Rattle.insert_vectors.proofs.insert_with_cuts.Goals as goal

-- a list of twice as many entries, cut where another is cut
twice : (n : ℕ) (l m : List Float) → n ≤ length l → 2 * n ≤ length m → length (take (2 * n) m) ≡ length (take n l) + length (take n l)
twice n l m h k = rw (length-take-le (2 * n) m k, length-take-le n l h) (omega arith)

pub slice_bounds-insert_all-end : goal.slice_bounds-insert_all-end
slice_bounds-insert_all-end c = sym (length-take-le _ _ (search rules))

pub slice_bounds-insert_all-end-2 : goal.slice_bounds-insert_all-end-2
slice_bounds-insert_all-end-2 c = sym (length-take-le _ _ (search rules))

pub slice_bounds-insert_all-end-3 : goal.slice_bounds-insert_all-end-3
slice_bounds-insert_all-end-3 c = sym (length-take-le _ _ (search rules))

pub slice_bounds-insert_all-end-4 : goal.slice_bounds-insert_all-end-4
slice_bounds-insert_all-end-4 c = sym (length-take-le _ _ (search rules))

pub insert_all-requires : goal.insert_all-requires
insert_all-requires c =
    let n = c.args.to_pts in (
      omega arith,
      (record { outs = twice n _ _ (search rules) (search rules); keeps = twice n _ _ (search rules) (search rules); nexts = twice n _ _ (search rules) (search rules) }, omega (arith, c.requires.1)),
    )

pub shape_of-edge_words : goal.shape_of-edge_words
shape_of-edge_words c =
    c.insert_all.auto.edge_words

pub shape_of-triangle_words : goal.shape_of-triangle_words
shape_of-triangle_words c =
    c.insert_all.auto.triangle_words

pub shape_of-words : goal.shape_of-words
shape_of-words c =
    c.insert_all.auto.words

pub shape_of-reals : goal.shape_of-reals
shape_of-reals c = c.insert_all.auto.reals

pub shape_of-keys : goal.shape_of-keys
shape_of-keys c = c.insert_all.auto.keys

pub shape_of-events : goal.shape_of-events
shape_of-events c = c.insert_all.auto.events

pub shape_of-vertex : goal.shape_of-vertex
shape_of-vertex c =
    c.insert_all.auto.vertex

pub shape_of-entry_words : goal.shape_of-entry_words
shape_of-entry_words c =
    c.insert_all.auto.entry_words
