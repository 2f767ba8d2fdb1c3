-- `trim_c::sirmolaat_trim_run` meets its contract. Assumes nothing.
use Rattle.trim_c.proofs.sirmolaat_trim_run.Goals as goal

pub returns : goal.returns
returns c =
    let run = c.run-ran in
    record { answer = run.result; runs = run.ensures; tells = c.tell.ensures }
