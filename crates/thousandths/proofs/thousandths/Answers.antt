-- `thousandths::thousandths` meets its contract. Assumes nothing.
use mathlib.Core.Path.{◌≡◌, refl, sym}
use mathlib.Core.Bool.{Bool, true, false, cond}
use mir.Val.{bool_byte}
use Prim.Native.Nat.{◌+◌, ◌-◌, ◌*◌, ◌/◌, ◌%◌, ◌^◌, ◌≤◌}
use native.Mathlib.Nat.{div-le_self}
use native.Mathlib.Omega.{arith}
use Rattle.thousandths.proofs.Laws.{from_digits, below_half}
use Rattle.thousandths.proofs.thousandths.Goals as goal

pub returns-then-b-lt4557642822898941952 : goal.returns-then-b-lt4557642822898941952
returns-then-b-lt4557642822898941952 c = sym (below_half c.args.minus c.args.b c.if-b-lt4557642822898941952.true)

at_most_one : (b : Bool) → bool_byte b ≤ 1
at_most_one true = omega arith
at_most_one false = omega arith

as_chosen : (b : Bool) → bool_byte b ≡ cond b 1 0
as_chosen true = refl
as_chosen false = refl

pub overflow_sub-m : goal.overflow_sub-m
overflow_sub-m c = omega (arith, c.from-less.ensures, at_most_one c.args.minus)

pub overflow_add-result : goal.overflow_add-result
overflow_add-result c =
    let b = c.args.b in omega (arith, div-le_self (1000 * (b % 2 ^ 52 + 2 ^ 52) - c.from-less.result) (2 ^ (1074 - b / 2 ^ 52)))

pub returns : goal.returns
returns c =
    let a = c.args in rw (c.from-less.ensures, as_chosen a.minus) (sym (from_digits a.minus a.b (omega arith) (omega arith)))
