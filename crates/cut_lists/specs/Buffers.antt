-- The slices of an addition's lists, document 01's cut room. Definitions only.
use Rattle.std.specs.Prelude.{List, Float}
use Rattle.buffers.specs.Lent.{Lent, given, left}

-- `pts` has one number to an entry, the others two
pub record Cuts : Type 0 where
  pub pts : List Float
  pub out : List Float
  pub keep : List Float
  pub next : List Float

abbrev pub cut_buffers : List Float → List Float → List Float → List Float → Cuts
cut_buffers pts out keep next = record { pts = pts; out = out; keep = keep; next = next }

-- at the call, and at the return
module _ (pts out keep next : Lent Float) where
  abbrev pub cuts_before : Cuts
  cuts_before = cut_buffers (given pts) (given out) (given keep) (given next)

  abbrev pub cuts_after : Cuts
  cuts_after = cut_buffers (left pts) (left out) (left keep) (left next)
