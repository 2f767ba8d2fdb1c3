-- A slice that is lent to a function, as its contract speaks of it: what it holds at the call, and what it holds at the return.
use Rattle.std.specs.Prelude.{List}
use Rattle.std.specs.Borrow.{MutBor}
use denote.Triple.Both.{Both}

abbrev pub Lent : Type 0 → Type 0
Lent A = Both (MutBor (List A)) (MutBor (List A))

abbrev pub given : {A : Type 0} → Lent A → List A
given s = s.entry.now

abbrev pub left : {A : Type 0} → Lent A → List A
left s = s.exit.now
