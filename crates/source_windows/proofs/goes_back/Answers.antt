-- `source_windows::goes_back` meets its contract. Assumes nothing.
use Rattle.source_windows.specs.Back.{goes_back_along}
use Rattle.source_windows.proofs.goes_back.Goals as goal

pub returns-then-d : goal.returns-then-d
unfolding goes_back_along
returns-then-d c = rw (← c.advance-d.ensures, c.if-d.true, c.is_finite.ensures)

pub returns : goal.returns
unfolding goes_back_along
returns c = rw (← c.advance-d.ensures, c.if-d.false)
