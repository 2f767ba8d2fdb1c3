-- `source_windows::wave` meets its contract. Assumes nothing.
use Rattle.source_windows.specs.Segment.{wave_of}
use Rattle.source_windows.proofs.wave.Goals as goal

pub returns-then-too_narrow : goal.returns-then-too_narrow
unfolding wave_of
returns-then-too_narrow c = rw (← c.ahead-part.ensures, ← c.too_narrow.ensures, c.if-too_narrow.true)

pub returns : goal.returns
unfolding wave_of
returns c = rw (← c.ahead-part.ensures, ← c.too_narrow.ensures, c.if-too_narrow.false)
