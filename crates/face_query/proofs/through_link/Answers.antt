use Rattle.face_query.proofs.Steps.{window_alive, window_dead, window_far}
use Rattle.face_query.proofs.through_link.Goals as goal

pub returns-then-window : goal.returns-then-window
returns-then-window c =
    let a = c.args in
    window_alive a.words.now a.reals.now a.i a.x a.y a.d c.load-window.result c.load-window.ensures c.if-window.true c.through_window.result c.through_window.ensures

pub returns-then-y-read_f64 : goal.returns-then-y-read_f64
returns-then-y-read_f64 c =
    let a = c.args in
    window_dead a.words.now a.reals.now a.i a.x a.y a.d c.load-window.result c.load-window.ensures c.if-window.false

pub returns : goal.returns
returns c =
    let a = c.args in
    window_far a.words.now a.reals.now a.i a.x a.y a.d c.read_f64.result c.read_f64.ensures c.if-y-read_f64.false
