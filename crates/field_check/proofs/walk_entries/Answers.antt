use mathlib.Core.Path.{refl, sym, ap, ◌∙◌}
use native.Mathlib.Omega.{arith}
use Prim.Native.Nat.{ℕ, ◌-◌}
use Rattle.face_entries.specs.Buffers.{next_entry_of}
use Rattle.field_check.specs.Chains.{walk_of}
use Rattle.field_check.specs.FieldCheck.{entry_outside}
use Rattle.field_check.proofs.Walks.{walk_end, walk_over, walk_bad, walk_on_lem, walk_any}
use Rattle.field_check.proofs.walk_entries.Goals as goal

pub loop-at-init : goal.loop-at-init
loop-at-init c = refl

pub returns-then-left-eq0 : goal.returns-then-left-eq0
returns-then-left-eq0 c =
    let l = c.loop-at in
    let a = c.args in
    sym (walk_over (next_entry_of a.entry_words.now) (λ (before i : ℕ). entry_outside a.pieces a.entry_words.now i) l.left 0 l.at c.if-left-eq0.true c.loop-at-test.true) ∙ l.invariant

pub entry_outside-requires : goal.entry_outside-requires
entry_outside-requires c = c.capacity-entries.ensures

pub returns-then-entry_outside : goal.returns-then-entry_outside
returns-then-entry_outside c =
    let l = c.loop-at in
    let a = c.args in
    sym (walk_bad (next_entry_of a.entry_words.now) (λ (before i : ℕ). entry_outside a.pieces a.entry_words.now i) l.left 0 l.at c.loop-at-test.true (sym c.entry_outside.ensures ∙ c.if-entry_outside.true)) ∙ l.invariant

pub loop-at-preserved : goal.loop-at-preserved
loop-at-preserved c =
    let l = c.loop-at in
    let a = c.args in
    ap (walk_of (next_entry_of a.entry_words.now) (λ (before i : ℕ). entry_outside a.pieces a.entry_words.now i) (l.left - 1) 0) c.read_u32-at.ensures
    ∙ walk_any (next_entry_of a.entry_words.now) (λ (before i : ℕ). entry_outside a.pieces a.entry_words.now i) (λ k m i. refl) (l.left - 1) 0 l.at (next_entry_of a.entry_words.now (l.at - 1))
    ∙ walk_on_lem (next_entry_of a.entry_words.now) (λ (before i : ℕ). entry_outside a.pieces a.entry_words.now i) l.left 0 l.at c.if-left-eq0.false c.loop-at-test.true (sym c.entry_outside.ensures ∙ c.if-entry_outside.false)
    ∙ l.invariant

pub returns : goal.returns
returns c =
    let l = c.loop-at in
    let a = c.args in
    sym (walk_end (next_entry_of a.entry_words.now) (λ (before i : ℕ). entry_outside a.pieces a.entry_words.now i) l.left 0 l.at (omega (arith, c.loop-at-test.false))) ∙ l.invariant
