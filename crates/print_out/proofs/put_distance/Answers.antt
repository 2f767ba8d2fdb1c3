-- `print_out::put_distance` meets its contract. Assumes nothing.
use Rattle.print_out.proofs.Distance.{far_is, nan_is, number_is}
use lib.Dec.{T}
use mathlib.Core.Path.{sym, subst, ◌∙◌}
use native.Mathlib.Omega.{arith}
use Rattle.print_out.proofs.put_distance.Goals as goal

pub returns-then-b-eq9218868437227405312 : goal.returns-then-b-eq9218868437227405312
returns-then-b-eq9218868437227405312 c =
    let put = c.put_text.ensures in
    let fits = subst T (sym c.well_formed.1.1.0.1) tt in
    (rw (far_is c.args.x fits (sym c.pattern-b.ensures ∙ c.if-b-eq9218868437227405312.true)) put, omega (arith, put.ends))

pub returns-then-size-ge9218868437227405312 : goal.returns-then-size-ge9218868437227405312
returns-then-size-ge9218868437227405312 c =
    let put = c.put_text-then-size-ge9218868437227405312.ensures in
    let fits = subst T (sym c.well_formed.1.1.0.1) tt in
    let e = c.pattern-b.ensures in
    (rw (nan_is c.args.x fits (λ q. c.if-b-eq9218868437227405312.false (e ∙ q)) (rw e at c.if-size-ge9218868437227405312.true)) put, omega (arith, put.ends))

pub returns : goal.returns
returns c =
    let put = c.put_thousandths.ensures in
    let fits = subst T (sym c.well_formed.1.1.0.1) tt in
    let e = c.pattern-b.ensures in
    (rw (sym (number_is c.args.x fits (rw e at c.if-size-ge9218868437227405312.false))) (rw (c.is_minus.ensures, e) at put.0), put.1)
