use Rattle.validation.proofs.Dirtied.{parts_met}
use Rattle.validation.proofs.dirty.DirtyParts.meets.Goals as goal

pub returns : goal.returns
returns c = rw (← c.self.view_is) (parts_met c.args.r.now c.self.inside.parts c.meets.result c.self.invariant c.corner_law.ensures
    c.meets.ensures)
