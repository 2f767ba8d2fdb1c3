use Rattle.trim_operations.proofs.new_window_at.Goals as goal

pub returns : goal.returns
returns c = λ t. record {
  b0 = c.read_f64-b0.ensures t;
  b1 = c.read_f64-b1.ensures t;
  src = c.source_at-src.ensures t;
  carried = record { into = record { 0 = c.read_u32-into.ensures t }; queued = c.is_queued-queued.ensures t };
}
