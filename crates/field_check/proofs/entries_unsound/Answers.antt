use mathlib.Core.Path.{sym, ap, ◌∙◌}
use Prim.Native.Nat.{ℕ}
use lib.ListN.{length}
use Rattle.face_entries.specs.Buffers.{entry_capacity, first_entry_of, next_entry_of}
use Rattle.field_check.specs.Chains.{walk_of}
use Rattle.field_check.specs.FieldCheck.{entry_outside, entries_unsound}
use Rattle.field_check.proofs.Walks.{sound_start, sound_on, unsound_there, sound_all}
use Rattle.field_check.proofs.entries_unsound.Goals as goal

pub loop-f-init : goal.loop-f-init
loop-f-init c =
    let a = c.args in
    rw c.capacity-left.ensures (sound_start (next_entry_of a.entry_words.now) (λ (before i : ℕ). entry_outside a.pieces a.entry_words.now i) (first_entry_of a.triangle_words.now) (entry_capacity (length a.entry_words.now)))

pub returns-in_default : goal.returns-in_default
unfolding entries_unsound
returns-in_default c =
    let l = c.loop-f in
    let a = c.args in
    sym (unsound_there (next_entry_of a.entry_words.now) (λ (before i : ℕ). entry_outside a.pieces a.entry_words.now i) (first_entry_of a.triangle_words.now) (entry_capacity (length a.entry_words.now)) l.left l.f l.invariant c.walk_entries.result (c.walk_entries.ensures ∙ ap (walk_of (next_entry_of a.entry_words.now) (λ (before i : ℕ). entry_outside a.pieces a.entry_words.now i) l.left 0) c.read_u32-first.ensures) c.in_default.is a.triangles c.loop-f-test.true)

pub loop-f-preserved : goal.loop-f-preserved
loop-f-preserved c =
    let l = c.loop-f in
    let a = c.args in
    sound_on (next_entry_of a.entry_words.now) (λ (before i : ℕ). entry_outside a.pieces a.entry_words.now i) (first_entry_of a.triangle_words.now) (entry_capacity (length a.entry_words.now)) l.left l.f l.invariant c.walk_entries.result (c.walk_entries.ensures ∙ ap (walk_of (next_entry_of a.entry_words.now) (λ (before i : ℕ). entry_outside a.pieces a.entry_words.now i) l.left 0) c.read_u32-first.ensures) c.in-Some.rest c.in-Some.is

pub returns : goal.returns
unfolding entries_unsound
returns c =
    let l = c.loop-f in
    let a = c.args in
    sym (sound_all (next_entry_of a.entry_words.now) (λ (before i : ℕ). entry_outside a.pieces a.entry_words.now i) (first_entry_of a.triangle_words.now) (entry_capacity (length a.entry_words.now)) l.left l.f a.triangles l.invariant l.auto.f-end c.loop-f-test.false)
