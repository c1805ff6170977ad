use Rattle.std.proofs.Common.{sym, subst}
use Rattle.convex_cell.specs.declared.frame.Ends.{Ends}
use Rattle.convex_cell.specs.Frame.{IsWidenedAlong}
use Rattle.convex_cell.proofs.Frames.{widened_by}
use Rattle.convex_cell.proofs.frame.widened_along.Goals as goal

pub returns : goal.returns
returns c =
    let a = c.args in
    subst (λ (e : Ends). IsWidenedAlong a.direction a.halves.now a.ends e) (sym c.joined.ensures) (widened_by a.direction a.halves.now a.ends
    c.ends_of_any.result c.ends_of_any.ensures c.requires.from_fits c.requires.to_fits)
