use Rattle.trim_operations.proofs.Tests.{double, refuse_edge, refuse_length, refuse_start, refuse_end, refuse_none}
use Rattle.trim_operations.proofs.check_candidate.Goals as goal

pub returns-then-m-e : goal.returns-then-m-e
returns-then-m-e c = let s = c in
    let a = s.args in
    record { number = refuse_edge a.m a.e.0 a.l a.b0 a.b1 c.if-m-e.true; start = double a.b0 s.well_formed.1.1.1.0.1; end = double a.b1 s.well_formed.1.1.1.1.0.1; length = double a.l s.well_formed.1.1.0.1 }

pub returns-then-is_on_edge-2 : goal.returns-then-is_on_edge-2
returns-then-is_on_edge-2 c =
    let is-on-edge2 = c.is_on_edge-then-is_on_edge in
    let is-on-edge = c.is_on_edge in
    let has-length = c.has_length in
    let a = c.args in
    record {
      number = refuse_none a.m a.e.0 a.l a.b0 a.b1 has-length.result has-length.ensures c.if-m-e.false c.if-has_length.true is-on-edge.result
          is-on-edge.ensures c.if-is_on_edge.true is-on-edge2.result is-on-edge2.ensures c.if-is_on_edge-2.true;
      start = double a.b0 c.well_formed.1.1.1.0.1;
      end = double a.b1
          c.well_formed.1.1.1.1.0.1;
      length = double a.l c.well_formed.1.1.0.1;
    }

pub returns-else-is_on_edge-2 : goal.returns-else-is_on_edge-2
returns-else-is_on_edge-2 c =
    let is-on-edge2 = c.is_on_edge-then-is_on_edge in
    let is-on-edge = c.is_on_edge in
    let has-length = c.has_length in
    let a = c.args in
    record {
      number = refuse_end a.m a.e.0 a.l a.b0 a.b1 has-length.result has-length.ensures c.if-m-e.false c.if-has_length.true is-on-edge.result
          is-on-edge.ensures c.if-is_on_edge.true is-on-edge2.result is-on-edge2.ensures c.if-is_on_edge-2.false;
      start = double a.b0 c.well_formed.1.1.1.0.1;
      end = double a.b1
          c.well_formed.1.1.1.1.0.1;
      length = double a.l c.well_formed.1.1.0.1;
    }

pub returns-else-is_on_edge : goal.returns-else-is_on_edge
returns-else-is_on_edge c =
    let is-on-edge = c.is_on_edge in
    let has-length = c.has_length in
    let a = c.args in
    record {
      number = refuse_start a.m a.e.0 a.l a.b0 a.b1 has-length.result has-length.ensures c.if-m-e.false c.if-has_length.true is-on-edge.result
          is-on-edge.ensures c.if-is_on_edge.false;
      start = double a.b0 c.well_formed.1.1.1.0.1;
      end = double a.b1 c.well_formed.1.1.1.1.0.1;
      length = double a.l c.well_formed.1.1.0.1;
    }

pub returns : goal.returns
returns c = let s = c in
    let a = s.args in
    record { number = refuse_length a.m a.e.0 a.l a.b0 a.b1 c.has_length.result c.has_length.ensures c.if-has_length.false; start = double a.b0 s.well_formed.1.1.1.0.1; end = double a.b1 s.well_formed.1.1.1.1.0.1; length = double a.l s.well_formed.1.1.0.1 }
