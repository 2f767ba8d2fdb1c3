use Prim.Native.Nat.{ℕ}
use native.Mathlib.Omega.{arith}
use mathlib.Core.Bool.{Bool, true, ◌&&◌, true≢false}
use mathlib.Core.List.{List}
use mathlib.Core.Path.{◌≡◌, refl, sym, ap, ◌∙◌}
use lib.Ieee.{Float, binary64, div}
use Rattle.std.specs.declared.option.Option.{Option}
use Rattle.std.specs.declared.option.Option.TheVariants.{Some, None}
use Rattle.std.specs.Option.{is_none}
use Rattle.float64.specs.Scalar.{zero64, one}
use Rattle.chains.specs.Chains.{links}
use Rattle.last_pass.specs.Buffers.{chain_behind}
use Rattle.face_query.specs.Lows.{least_low, walk_low}
use Rattle.face_query.proofs.Steps.{infinite}
use Rattle.face_query.proofs.Lows.{walk_over, walk_out}
use Rattle.face_query.proofs.side_lows.Invariants.{lowest}
use Rattle.face_query.proofs.side_lows.Goals as goal

-- none of three has more
none : (x y z : Option ℕ) (r : Bool) → r ≡ (is_none x && (is_none y && is_none z)) → r ≡ true → (x ≡ None) × ((y ≡ None) × (z ≡ None))
none (Some k) y z r h t = absurd (true≢false (sym t ∙ h))
none None (Some k) z r h t = absurd (true≢false (sym t ∙ h))
none None None (Some k) r h t = absurd (true≢false (sym t ∙ h))
none None None None r h t = (refl, (refl, refl))

module _ (ew w : List ℕ) (f : List Float) (made : ℕ) where
  -- a walk that has not begun
  begins : (e : ℕ) → walk_low made (links ew w) f e made (record { low = div binary64 one zero64; before = Some 0 }) ≡ lowest ew w f made e
  begins e = ap (λ (v : Float). least_low f v (chain_behind made (links ew w) e made 0)) infinite

pub loop-left-init : goal.loop-left-init
loop-left-init c =
    let a = c.args in
    let begin = begins a.edge_words.now a.words.now a.reals.now a.made in
    (begin a.e0.0, (begin a.e1.0, begin a.e2.0))

pub returns-then-over : goal.returns-then-over
returns-then-over c =
    let l = c.loop-left in
    let a = c.args in
    let b = links a.edge_words.now a.words.now in
    let n = none l.a.before l.b.before l.c.before c.over.result c.over.ensures c.if-over.true in (
      sym (walk_over a.made b a.reals.now a.e0.0 l.left l.a n.0) ∙ l.invariant.0,
      (
        sym (walk_over a.made b a.reals.now a.e1.0 l.left l.b n.1.0) ∙ l.invariant.1.0,
        sym (walk_over a.made b a.reals.now a.e2.0 l.left l.c n.1.1) ∙ l.invariant.1.1,
      ),
    )

pub loop-left-preserved : goal.loop-left-preserved
loop-left-preserved c =
    let l = c.loop-left in (
      c.pass_low-a.ensures l.left c.loop-left-test.true ∙ l.invariant.0,
      (
        c.pass_low-b.ensures l.left c.loop-left-test.true ∙ l.invariant.1.0,
        c.pass_low-c.ensures l.left c.loop-left-test.true ∙ l.invariant.1.1,
      ),
    )

pub returns : goal.returns
returns c =
    let l = c.loop-left in
    let a = c.args in
    let b = links a.edge_words.now a.words.now in
    let z : l.left ≡ 0 = omega (arith, c.loop-left-test.false) in (
      sym (walk_out a.made b a.reals.now a.e0.0 l.left l.a z) ∙ l.invariant.0,
      (
        sym (walk_out a.made b a.reals.now a.e1.0 l.left l.b z) ∙ l.invariant.1.0,
        sym (walk_out a.made b a.reals.now a.e2.0 l.left l.c z) ∙ l.invariant.1.1,
      ),
    )
