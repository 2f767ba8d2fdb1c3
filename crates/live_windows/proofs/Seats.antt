-- A list of windows cut where a test first fails. Assumes nothing.
use mathlib.Core.Bool.{Bool}
use mathlib.Core.List.{List, ◌++◌, append_assoc}
use mathlib.Core.Path.{◌≡◌, sym, ap, ◌∙◌}
use Rattle.trim_model.specs.Windows.{Window, take_while, drop_while}
use Rattle.trim_model.proofs.Lists.{take_drop}

pub seat_split : (p : Window → Bool) (xs zs : List Window) → xs ++ zs ≡ (xs ++ take_while p zs) ++ drop_while p zs
seat_split p xs zs = ap (λ l. xs ++ l) (sym (take_drop p zs)) ∙ sym (append_assoc xs (take_while p zs) (drop_while p zs))
