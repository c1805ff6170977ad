use Rattle.error_store.proofs.Walking.{first_in, none_in_range, next_here, past_none, past_off, past_all, past_next, less_left}
use Rattle.error_store.proofs.walk.next_of.Goals as goal

pub loop-pair-init : goal.loop-pair-init
loop-pair-init c = past_none c.args.subjects.now c.args.runs.now c.args.from

pub returns-in_default-last_off-clause-next : goal.returns-in_default-last_off-clause-next
returns-in_default-last_off-clause-next c =
    let m = c.args.runs.now in
    let p = c.in-Some.pair.now in
    let v = c.in-Some.run'.now in
    let first = first_in m c.loop-pair.from c.range.result c.next.new.self p v (c.range.ensures.in_range tt) c.in-Some.ensures.steps in
    past_next c.args.subjects.now m c.args.from c.loop-pair.from p v c.loop-pair.invariant
    (next_here c.args.subjects.now m c.loop-pair.from p v first c.in_default-last_off.ensures)

pub loop-pair-preserved : goal.loop-pair-preserved
loop-pair-preserved c =
    let m = c.args.runs.now in
    let p = c.in-Some.pair.now in
    let v = c.in-Some.run'.now in
    let first = first_in m c.loop-pair.from c.range.result c.next.new.self p v (c.range.ensures.in_range tt) c.in-Some.ensures.steps in
    past_off c.args.subjects.now m c.args.from c.loop-pair.from p c.in-Some-last_off.last v c.loop-pair.invariant first
    c.in-Some-last_off.ensures

pub loop-pair-smaller : goal.loop-pair-smaller
loop-pair-smaller c =
    let m = c.args.runs.now in
    let p = c.in-Some.pair.now in
    let v = c.in-Some.run'.now in
    let first = first_in m c.loop-pair.from c.range.result c.next.new.self p v (c.range.ensures.in_range tt) c.in-Some.ensures.steps in
    let off = c.in-Some-last_off.ensures in
    less_left m c.loop-pair.from p c.in-Some-last_off.last v first.on first.run (off.rule, off.on)

pub returns-clause-next : goal.returns-clause-next
returns-clause-next c = past_all c.args.subjects.now c.args.runs.now c.args.from c.loop-pair.from c.loop-pair.invariant
    (none_in_range c.args.runs.now c.loop-pair.from c.range.result (c.range.ensures.in_range tt) c.in_default.ensures.steps.0)
