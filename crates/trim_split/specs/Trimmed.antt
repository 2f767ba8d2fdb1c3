-- A window trimmed to an interval. Definitions only.
use Rattle.std.specs.Prelude.{Float}
use Rattle.source.specs.declared.Win.{Win}
use Rattle.source.specs.Distance.{lowest_of}

-- 01's `Win`: its two ends, its lowest value between them, and its source
abbrev pub trimmed_to : Win → Float → Float → Win
trimmed_to w b0 b1 = record { b0 = b0; b1 = b1; low = lowest_of w.src b0 b1; src = w.src }
