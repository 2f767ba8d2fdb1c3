-- 01's refusals for lack of a slot, by their numbers.
use Rattle.std.specs.Prelude.{ℕ}
use Rattle.buffers.specs.declared.Lack.{Lack}
use Rattle.buffers.specs.declared.Lack.TheVariants.{Windows, Events, Cuts, Entries}

abbrev pub lack_number : Lack → ℕ
lack_number Windows = 12
lack_number Events = 13
lack_number Cuts = 14
lack_number Entries = 17
