use Rattle.face_entries.specs.Buffers.{entry_buffers}
use Rattle.face_entries.proofs.Calls.{put_first, put_next}
use Rattle.face_entries.proofs.put_behind.Goals as goal

pub returns-then-last-eq0 : goal.returns-then-last-eq0
returns-then-last-eq0 c =
    let a = c.args in
    put_first (entry_buffers a.triangle_words.now a.entry_words.now) a.face.0 a.last a.link _ _ c.if-last-eq0.true c.write_u32.ensures c.write_u32-then-last-eq0.ensures

pub returns : goal.returns
returns c =
    let a = c.args in
    put_next (entry_buffers a.triangle_words.now a.entry_words.now) a.face.0 a.last a.link _ _ c.if-last-eq0.false c.write_u32.ensures c.write_u32-2.ensures
