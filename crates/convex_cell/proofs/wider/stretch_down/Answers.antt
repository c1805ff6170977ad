use Rattle.std.proofs.Common.{◌-◌, length, arith, refl}
use Rattle.convex_cell.proofs.Searches.{round_put}
use Rattle.convex_cell.proofs.wider.stretch_down.Goals as goal

pub loop-done-preserved : goal.loop-done-preserved
loop-done-preserved c =
    let i = length c.loop-done.wider - c.loop-done.done - 1 in
    round_put c.loop-done.wider _ c.args.wider.now i c.stretched_down.result _ (omega arith) c.stretched_down.ensures refl
    c.loop-done.invariant
