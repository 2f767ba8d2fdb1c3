-- `piece_ends::build` meets its contract. The invariant: the words hold the table of the ends from number e on. Assumes nothing.
use Prim.Native.Nat.{ℕ, suc, ◌-◌, ◌*◌, ◌<◌, ◌≤◌}
use mathlib.Core.Path.{◌≡◌, refl, sym, ap, subst, ◌∙◌}
use mathlib.Core.List.{List}
use native.Mathlib.Omega.{arith}
use lib.Ieee.{Float}
use lib.ListN.{length, replicate, length-replicate}
use Rattle.layout.specs.Layout.{words_per_piece}
use Rattle.piece_ends.specs.Table.{entered}
use Rattle.piece_ends.proofs.Building.{Partial, none_entered, enter_turn, all_entered_lem}
use Rattle.piece_ends.proofs.build.Goals as goal

length_of : (l m : List ℕ) → l ≡ replicate (length m) 0 → length l ≡ length m
length_of l m e = ap length e ∙ length-replicate (length m) 0

zero-start : (kinds : List ℕ) (coords : List Float) (words words₀ : List ℕ) → words ≡ replicate (length words₀) 0 → Partial kinds coords (2 * length kinds) words
zero-start kinds coords words words₀ e = subst (Partial kinds coords (2 * length kinds)) (sym e) (none_entered kinds coords (length words₀))

entered-next : (kinds : List ℕ) (coords : List Float) (e : ℕ) (words words' : List ℕ) → e ≤ 2 * length kinds → 0 < e → words_per_piece * length kinds ≤ length words → Partial kinds coords e words → words' ≡ entered kinds coords (e - 1) words → Partial kinds coords (e - 1) words'
entered-next kinds coords e words words' l more room part is =
    let n : e ≡ suc (e - 1) = omega arith in
    enter_turn kinds coords (e - 1) (omega arith) words words' room (subst (λ (k : ℕ). Partial kinds coords k words) n part) is

none_left : (kinds : List ℕ) (coords : List Float) (e : ℕ) (words : List ℕ) → e ≤ 0 → Partial kinds coords e words → Partial kinds coords 0 words
none_left kinds coords e words z part = let n : e ≡ 0 = omega arith in subst (λ (k : ℕ). Partial kinds coords k words) n part

pub loop-e-init : goal.loop-e-init
loop-e-init c =
    let a = c.args in
    (omega arith, (refl, zero-start a.kinds.now a.coords.now _ a.words.now c.zero_u32.ensures))

pub loop-e-preserved : goal.loop-e-preserved
loop-e-preserved c =
    let a = c.args in
    let p = c.requires in
    (omega (arith, c.loop-e.invariant.0), (c.enter.auto.words ∙ c.loop-e.invariant.1.0, entered-next a.kinds.now a.coords.now c.loop-e.e _ _ c.loop-e.invariant.0 c.loop-e-test.true (omega (arith, p.1, c.loop-e.invariant.1.0, length_of _ a.words.now c.zero_u32.ensures)) c.loop-e.invariant.1.1 c.enter.ensures))

pub returns : goal.returns
returns c =
    let a = c.args in
    all_entered_lem a.kinds.now a.coords.now c.loop-e.words _ (c.loop-e.invariant.1.0 ∙ length_of _ a.words.now c.zero_u32.ensures) (none_left a.kinds.now a.coords.now c.loop-e.e c.loop-e.words c.loop-e-test.false c.loop-e.invariant.1.1)
