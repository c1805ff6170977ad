use Rattle.std.proofs.Common.{arith, refl}
use Rattle.convex_cell.proofs.Searches.{round_put}
use Rattle.convex_cell.proofs.wider.stretch_on.Goals as goal

pub loop-i-preserved : goal.loop-i-preserved
loop-i-preserved c = round_put c.loop-i.wider _ c.args.wider.now c.loop-i.i c.stretched_on.result _ (omega arith)
    c.stretched_on.ensures refl c.loop-i.invariant
