use Rattle.convex_cell.proofs.Shadows.{shadow_on_line}
use Rattle.convex_cell.proofs.line.range_on.Goals as goal

pub returns-clause-shadow : goal.returns-clause-shadow
returns-clause-shadow c =
    shadow_on_line c.args.direction c.args.first.now c.args.second.now c.args.line.now _ _ _ c.requires.across c.requires.on
    c.all-range.ensures.all c.cut_on_line.ensures.both c.cut_on_line-2.ensures.both
