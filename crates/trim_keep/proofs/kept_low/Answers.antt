-- `trim_keep::kept_low` meets its contract: a double is known by its place in the total order. Assumes nothing.
use mathlib.Core.Path.{sym, ◌∙◌}
use borrow.Author.Rules.{rules}
use Rattle.float64.proofs.TotalOrder.{total_key_injective}
use Rattle.trim_keep.proofs.kept_low.Goals as goal

pub returns-then-total_key-2 : goal.returns-then-total_key-2
returns-then-total_key-2 c =
    let a = c.args in
    let first = total_key_injective a.b0 a.w.b0 (search rules) (search rules) (sym c.total_key.ensures ∙ c.if-total_key.true ∙ c.total_key-2.ensures) in
    let second = total_key_injective a.b1 a.w.b1 (search rules) (search rules) (sym c.total_key-then-total_key.ensures ∙ c.if-total_key-2.true ∙ c.total_key-then-total_key-2.ensures) in
    rw (first, second) c.requires

pub returns : goal.returns
returns c = c.lowest.ensures
