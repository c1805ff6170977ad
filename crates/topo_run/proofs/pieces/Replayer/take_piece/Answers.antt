use Rattle.std.proofs.Common.{arith, rules, sym, ◌∙◌}
use Rattle.topo_run.proofs.Stepping.{keeps_by}
use Rattle.topo_run.proofs.Runs.{at_err}
use Rattle.topo_run.proofs.Feeding.{piece_begins, piece_on, piece_flushed, piece_ends, piece_stops, piece_breaks}
use Rattle.topo_run.proofs.pieces.Replayer.take_piece.Goals as goal

pub loop-end-init : goal.loop-end-init
loop-end-init g c = record {
  far = λ tail holds. rw c.new-gathered.ensures.items (piece_begins c.args.self.now tail c.args.piece.now _
      (keeps_by c.args.self.now.state c.args.self.now.state (λ k. k) (λ k. k) c.state_law.ensures.sound c.state_law.ensures.invariant) holds);
  later = omega arith;
}

pub loop-end-preserved : goal.loop-end-preserved
loop-end-preserved g c = record {
  far = λ tail holds. piece_flushed c.in_ok-write_if_many.ensures.ok.0 (piece_on c.in-Some.end.now c.in-Some.after.now
      (c.loop-end.invariant.far tail holds) c.in-Some.ensures.1 c.in-Some.ensures.0 c.in_ok-end_line.ensures)
      c.in_ok-write_if_many.ensures.ok.1 c.in_ok-write_if_many.ensures.ok.2;
  later = search rules;
}

pub returns-in_err-end_line-clause-err : goal.returns-in_err-end_line-clause-err
returns-in_err-end_line-clause-err g c = at_err c.from_residual.result (λ tail holds. piece_stops (c.loop-end.invariant.far tail holds)
    c.state_law.ensures.keeping c.state_law.ensures.ordered)

pub returns-in_err-write_if_many-clause-err : goal.returns-in_err-write_if_many-clause-err
returns-in_err-write_if_many-clause-err g c =
    let law = c.state_law.ensures in
    let part = c.in_err-write_if_many.ensures.err in
    at_err c.from_residual-in_err-write_if_many.result (λ tail holds. (piece_breaks part.0 part.1.0
    (piece_on c.in-Some.end.now c.in-Some.after.now (c.loop-end.invariant.far tail holds) c.in-Some.ensures.1 c.in-Some.ensures.0
    c.in_ok-end_line.ensures) law.keeping law.ordered part.1.1 part.3 part.2).prefix)

pub returns-in_err-write_if_many-clause-broken : goal.returns-in_err-write_if_many-clause-broken
returns-in_err-write_if_many-clause-broken g c =
    let law = c.state_law.ensures in
    let part = c.in_err-write_if_many.ensures.err in
    λ failed tail holds. piece_breaks part.0 part.1.0
    (piece_on c.in-Some.end.now c.in-Some.after.now (c.loop-end.invariant.far tail holds) c.in-Some.ensures.1 c.in-Some.ensures.0
    c.in_ok-end_line.ensures) law.keeping law.ordered part.1.1 part.3 part.2

pub returns-in_err-hold-clause-err : goal.returns-in_err-hold-clause-err
returns-in_err-hold-clause-err g c = at_err c.from_residual-in_err-hold.result (λ tail holds. piece_stops (c.loop-end.invariant.far tail holds)
    c.state_law.ensures.keeping c.state_law.ensures.ordered)

pub returns-in_err-write_all-clause-err : goal.returns-in_err-write_all-clause-err
returns-in_err-write_all-clause-err g c =
    let law = c.state_law.ensures in
    let part = c.in_err-write_all.ensures.err in
    at_err c.from_residual-in_err-write_all.result (λ tail holds. (piece_breaks part.0 part.1.0 (c.loop-end.invariant.far tail holds) law.keeping
    law.ordered (sym c.deref.ensures.value ∙ part.1.1) (rw c.deref.ensures.value at part.3) part.2).prefix)

pub returns-in_err-write_all-clause-broken : goal.returns-in_err-write_all-clause-broken
returns-in_err-write_all-clause-broken g c =
    let law = c.state_law.ensures in
    let part = c.in_err-write_all.ensures.err in
    λ failed tail holds. piece_breaks part.0 part.1.0 (c.loop-end.invariant.far tail holds) law.keeping law.ordered
    (sym c.deref.ensures.value ∙ part.1.1) (rw c.deref.ensures.value at part.3) part.2

pub returns-clause-ok : goal.returns-clause-ok
returns-clause-ok g c = λ tail holds. piece_ends (c.loop-end.invariant.far tail holds) c.in_default.ensures c.state_law.ensures.keeping
    c.state_law.ensures.ordered c.in_ok-hold.ensures c.deref.ensures.value c.in_ok-write_all.ensures.ok
