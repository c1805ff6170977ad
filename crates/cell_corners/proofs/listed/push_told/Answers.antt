use Rattle.std.proofs.Common.{sym, append-nil, []}
use Rattle.cell_corners.proofs.Told.{told_more}
use Rattle.cell_corners.proofs.listed.push_told.Goals as goal

pub loop-i-init : goal.loop-i-init
loop-i-init c = ([], sym (append-nil _), tt)

pub loop-i-preserved : goal.loop-i-preserved
loop-i-preserved c = told_more _ _ _ _ _ _ _ _ c.corner.ensures.value c.told.ensures c.loop-i.invariant
    c.in_ok-push.ensures.items
