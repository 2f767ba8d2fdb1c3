-- `face_distance::leg` meets its contract. Assumes nothing.
use mathlib.Core.Path.{◌≡◌, sym, subst}
use lib.Dec.{T}
use Rattle.face_distance.specs.Floors.{longer_leg}
use Rattle.face_distance.proofs.Floors.{leg_below}
use Rattle.face_distance.proofs.leg.Goals as goal

pub returns : goal.returns
unfolding longer_leg
returns c =
    let is : c.max.result ≡ longer_leg c.args.a c.args.b = rw (c.max.ensures, c.abs-2.ensures, c.abs.ensures) in
    (is, λ n m. rw is (leg_below c.args.a c.args.b (subst T (sym c.well_formed.0.1) tt) (subst T (sym c.well_formed.1.0.1) tt) m))
