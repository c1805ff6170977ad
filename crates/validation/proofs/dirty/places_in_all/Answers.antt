use Rattle.std.proofs.Common.{arith}
use Rattle.std.proofs.lemmas.List.{take_all}
use Rattle.validation.proofs.Asking.{places_more}
use Rattle.validation.proofs.dirty.places_in_all.Goals as goal

pub loop-r-preserved : goal.loop-r-preserved
loop-r-preserved c = omega (
  arith,
  c.loop-r.invariant,
  c.places_in.ensures,
  places_more c.args.rects.now c.loop-r.r-index c.r-item.result
      c.loop-r-test.true c.r-item.is,
)

pub returns : goal.returns
returns c = rw (take_all c.loop-r.r-index c.args.rects.now c.loop-r-test.false) at c.loop-r.invariant
