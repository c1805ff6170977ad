use Rattle.std.proofs.Common.{arith}
use Rattle.std.proofs.lemmas.Result.{err_from_is_err_and}
use Rattle.wkt_laws.specs.Steps.{Start}
use Rattle.wkt_laws.proofs.Passing.{passes_then}
use Rattle.wkt_text.specs.States.{state_of}
use Rattle.wkt_text.proofs.Geometries.{starts, keeps, refuses, found}
use Rattle.wkt_text.proofs.spelling.read_all.Goals as goal

pub loop-rest-init : goal.loop-rest-init
loop-rest-init c =
    let head = state_of c.read_head-head.result.0 in
    let behind = c.read_head-head.result.1.now in
    let state = state_of c.in_ok-state.state in
    let left = c.in_ok-state.left.now in
    starts c.args.text.now left c.skip_blanks-rest.result.now state
    (passes_then Start head state c.args.text.now behind left c.read_head-head.ensures c.in_ok-state.ensures) c.skip_blanks-rest.ensures

pub returns-in_err-middle : goal.returns-in_err-middle
returns-in_err-middle c =
    let p = err_from_is_err_and c.from_residual-in_err-middle.result c.from_residual-in_err-middle.ensures.1 in
    rw (p.1, p.2)
    (refuses c.args.text.now c.loop-rest.rest.now (state_of c.loop-rest.state) c.in_err-middle.field-0.0
    c.loop-rest.invariant.read c.in_err-middle.ensures)

pub loop-rest-smaller : goal.loop-rest-smaller
loop-rest-smaller c =
    let goes = keeps c.args.text.now c.loop-rest.rest.now c.in_ok-middle.behind.now c.in_ok-next.left.now
    c.skip_blanks-rest-in-loop-rest.result.now (state_of c.loop-rest.state) (state_of c.in_ok-middle.middle) (state_of c.in_ok-next.next)
    c.loop-rest.invariant (grind arith) c.in_ok-middle.ensures.0 c.in_ok-middle.ensures.1 c.in_ok-next.ensures
    c.skip_blanks-rest-in-loop-rest.ensures in
    goes.shorter

pub loop-rest-preserved : goal.loop-rest-preserved
loop-rest-preserved c =
    let goes = keeps c.args.text.now c.loop-rest.rest.now c.in_ok-middle.behind.now c.in_ok-next.left.now
    c.skip_blanks-rest-in-loop-rest.result.now (state_of c.loop-rest.state) (state_of c.in_ok-middle.middle) (state_of c.in_ok-next.next)
    c.loop-rest.invariant (grind arith) c.in_ok-middle.ensures.0 c.in_ok-middle.ensures.1 c.in_ok-next.ensures
    c.skip_blanks-rest-in-loop-rest.ensures in
    goes.keeps

pub returns : goal.returns
returns c =
    found c.args.text.now c.loop-rest.rest.now (state_of c.loop-rest.state) c.finish.result c.loop-rest.invariant
    (grind arith) c.finish.ensures
