use Prim.Native.Nat.{ℕ}
use lib.ListN.{length}
use Rattle.face_entries.specs.Buffers.{entry_capacity, first_entry_of, next_entry_of}
use Rattle.field_check.specs.FieldCheck.{entry_outside}
use Rattle.field_check.proofs.Walks.{SoundSoFar}
use Rattle.field_check.proofs.entries_unsound.Given as goal

abbrev pub invariant-loop-f : goal.invariant-loop-f
invariant-loop-f l = SoundSoFar (next_entry_of l.entry_words) (λ (before i : ℕ). entry_outside l.pieces l.entry_words i) (first_entry_of l.triangle_words) (entry_capacity (length l.entry_words)) l.left l.f
