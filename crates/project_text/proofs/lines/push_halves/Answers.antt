use Rattle.std.proofs.Common.{◌+◌, ltb, ap}
use Rattle.project_text.proofs.Listings.{half_more}
use Rattle.project_text.proofs.lines.push_halves.Goals as goal

pub loop-i-preserved : goal.loop-i-preserved
loop-i-preserved c = half_more c.args.cell.now c.loop-i.i _ _ _ _ _ c.half.ensures (ap (λ n. ltb (c.loop-i.i + 1) n) c.len.ensures)
    c.loop-i.invariant c.in_ok-push_next_half.ensures
