use native.Mathlib.Omega.{arith}
use Rattle.face_entries.specs.declared.PiecePart.{PiecePart}
use Rattle.face_entries.specs.Buffers.{entry_buffers}
use Rattle.face_entries.proofs.Calls.{enter_full, enter_done, enter_said}
use Rattle.face_entries.proofs.enter.Goals as goal

pub returns-then-capacity-count : goal.returns-then-capacity-count
returns-then-capacity-count c =
    let a = c.args in
    let b = entry_buffers a.triangle_words.now a.entry_words.now in
    let x : PiecePart = record { piece = a.piece; part = a.part } in
    let s = enter_said b a.count a.face.0 x (enter_full b a.count a.face.0 x (omega (arith, c.if-capacity-count.true, c.capacity.ensures))) in
    record { entry_words_value = s.0; result_value = s.1 }

pub returns : goal.returns
returns c =
    let a = c.args in
    let b = entry_buffers a.triangle_words.now a.entry_words.now in
    let x : PiecePart = record { piece = a.piece; part = a.part } in
    let s =
    enter_said b a.count a.face.0 x
    (enter_done b a.count a.face.0 x _ c.read_u32-read.result c.within-last.result _ (omega (arith, c.if-capacity-count.false, c.capacity.ensures))
    c.store.ensures c.read_u32-read.ensures c.within-last.ensures c.put_behind.ensures) in
    record { entry_words_value = s.0; result_value = s.1 }
