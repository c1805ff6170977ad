use Rattle.std.proofs.Common.{◌+◌, arith}
use Rattle.std.proofs.lemmas.List.{take_all}
use Rattle.validation.proofs.Asking.{steps_more, steps_within}
use Rattle.validation.proofs.Nearby.{near_more}
use Rattle.validation.proofs.dirty.near_each.Goals as goal

pub loop-r-preserved : goal.loop-r-preserved
loop-r-preserved g c = (
  near_more c.args.index.now c.args.rects.now c.loop-r.r-index c.r-item.result c.loop-r.found.items c.in_ok-near.near.items
      c.put_behind.new.out.items c.loop-r-test.true c.r-item.is c.loop-r.invariant.0 c.in_ok-near.ensures.near c.in_ok-put_behind.ensures,
  omega (arith, c.loop-r.invariant.1, c.query.ensures.rises),
  λ s. steps_more s c.args.rects.now c.args.index.now c.loop-r.r-index c.r-item.result (g.M.Meter.taken c.args.meter.now)
      (g.M.Meter.taken c.loop-r.meter) (g.M.Meter.taken c.query.new.meter) c.loop-r-test.true c.r-item.is (c.loop-r.invariant.2 s)
      (c.query.ensures.steps s),
)

pub returns-in_err-near-clause-steps : goal.returns-in_err-near-clause-steps
returns-in_err-near-clause-steps g c s = steps_within s c.args.rects.now c.args.index.now (c.loop-r.r-index + 1) (g.M.Meter.taken c.args.meter.now)
    (g.M.Meter.taken c.query.new.meter) (steps_more s c.args.rects.now c.args.index.now c.loop-r.r-index c.r-item.result
    (g.M.Meter.taken c.args.meter.now) (g.M.Meter.taken c.loop-r.meter) (g.M.Meter.taken c.query.new.meter) c.loop-r-test.true
    c.r-item.is (c.loop-r.invariant.2 s) (c.query.ensures.steps s))

pub returns-in_err-put_behind-clause-steps : goal.returns-in_err-put_behind-clause-steps
returns-in_err-put_behind-clause-steps g c s = steps_within s c.args.rects.now c.args.index.now (c.loop-r.r-index + 1)
    (g.M.Meter.taken c.args.meter.now) (g.M.Meter.taken c.query.new.meter) (steps_more s c.args.rects.now c.args.index.now
    c.loop-r.r-index c.r-item.result (g.M.Meter.taken c.args.meter.now) (g.M.Meter.taken c.loop-r.meter)
    (g.M.Meter.taken c.query.new.meter) c.loop-r-test.true c.r-item.is (c.loop-r.invariant.2 s) (c.query.ensures.steps s))

pub returns-clause-near : goal.returns-clause-near
returns-clause-near g c = λ q k. rw (take_all c.loop-r.r-index c.args.rects.now c.loop-r-test.false) at (c.loop-r.invariant.0 q k)

pub returns-clause-steps : goal.returns-clause-steps
returns-clause-steps g c s = steps_within s c.args.rects.now c.args.index.now c.loop-r.r-index (g.M.Meter.taken c.args.meter.now)
    (g.M.Meter.taken c.loop-r.meter) (c.loop-r.invariant.2 s)
