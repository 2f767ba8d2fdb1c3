use Rattle.window_rows.proofs.put_window.Goals as goal

pub returns-in-Ok : goal.returns-in-Ok
returns-in-Ok c =
    rw c.in-Ok.is c.store.ensures
