use Rattle.convex_cell.proofs.OnLines.{from_one}
use Rattle.convex_cell.proofs.line.line_across.Goals as goal

pub returns-in-Some-clause-on : goal.returns-in-Some-clause-on
returns-in-Some-clause-on c =
    from_one c.args.direction c.args.halves.now c.loop-half.half-index c.half-item.result c.in-Some.line c.loop-half-test.true
    c.half-item.is c.in-Some.ensures.on
