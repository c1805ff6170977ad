use Rattle.std.proofs.Common.{sym, ◌∙◌}
use Rattle.topo_run.proofs.Stepping.{keeps_by}
use Rattle.topo_run.proofs.Runs.{at_err}
use Rattle.topo_run.proofs.Feeding.{nothing_ends, last_ends, last_breaks, none_written, empty_rest, filled_rest}
use Rattle.topo_run.proofs.pieces.Replayer.take_end.Goals as goal

pub returns-then-holds_none-clause-ok : goal.returns-then-holds_none-clause-ok
returns-then-holds_none-clause-ok g c =
    let law = c.state_law.ensures in
    λ tail holds. nothing_ends c.args.self.now tail _
    (keeps_by c.args.self.now.state c.args.self.now.state (λ k. k) (λ k. k) law.sound law.invariant) law.keeping law.ordered
    (empty_rest c.args.self.now.rest (sym c.holds_none.ensures ∙ c.if-holds_none.true)) holds

pub returns-in_err-end_line-clause-err : goal.returns-in_err-end_line-clause-err
returns-in_err-end_line-clause-err g c =
    let law = c.state_law.ensures in
    at_err c.from_residual.result (λ tail holds. none_written c.args.self.now.state _ _
    (keeps_by c.args.self.now.state c.args.self.now.state (λ k. k) (λ k. k) law.sound law.invariant) law.keeping law.ordered)

pub returns-in_err-write_all-clause-err : goal.returns-in_err-write_all-clause-err
returns-in_err-write_all-clause-err g c =
    let law = c.state_law.ensures in
    let part = c.in_err-write_all.ensures.err in
    at_err c.from_residual-in_err-write_all.result (λ tail holds. (last_breaks tail part.0 part.1.0
    (keeps_by c.args.self.now.state c.args.self.now.state (λ k. k) (λ k. k) law.sound law.invariant) law.keeping law.ordered
    (filled_rest c.args.self.now.rest (sym c.holds_none.ensures ∙ c.if-holds_none.false)) holds
    (rw c.new-gathered.ensures.items at c.in_ok-end_line.ensures) (sym c.deref.ensures.value ∙ part.1.1)
    (rw c.deref.ensures.value at part.3) part.2).prefix)

pub returns-in_err-write_all-clause-broken : goal.returns-in_err-write_all-clause-broken
returns-in_err-write_all-clause-broken g c =
    let law = c.state_law.ensures in
    let part = c.in_err-write_all.ensures.err in
    λ failed tail holds. last_breaks tail part.0 part.1.0
    (keeps_by c.args.self.now.state c.args.self.now.state (λ k. k) (λ k. k) law.sound law.invariant) law.keeping law.ordered
    (filled_rest c.args.self.now.rest (sym c.holds_none.ensures ∙ c.if-holds_none.false)) holds
    (rw c.new-gathered.ensures.items at c.in_ok-end_line.ensures) (sym c.deref.ensures.value ∙ part.1.1)
    (rw c.deref.ensures.value at part.3) part.2

pub returns-clause-ok : goal.returns-clause-ok
returns-clause-ok g c =
    let law = c.state_law.ensures in
    λ tail holds. last_ends tail
    (keeps_by c.args.self.now.state c.args.self.now.state (λ k. k) (λ k. k) law.sound law.invariant) law.keeping law.ordered
    (filled_rest c.args.self.now.rest (sym c.holds_none.ensures ∙ c.if-holds_none.false)) holds
    (rw c.new-gathered.ensures.items at c.in_ok-end_line.ensures) c.deref.ensures.value c.in_ok-write_all.ensures.ok
