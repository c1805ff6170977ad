use Rattle.validation.proofs.Dirtied.{cover_moved, grid_moved}
use Rattle.validation.proofs.dirty.DirtyParts.of.Goals as goal

pub invariant_of-result : goal.invariant_of-result
invariant_of-result c = grid_moved c.in_ok-parts_of.field-0.items c.of-parts.result c.of-parts.ensures c.in_ok-parts_of.ensures.on_grid

pub returns-clause-covers : goal.returns-clause-covers
returns-clause-covers c = cover_moved c.in_ok-parts_of.field-0.items c.of-parts.result c.args.dirt.now c.args.window.now c.of-parts.ensures
    c.in_ok-parts_of.ensures.covers

pub returns-clause-parts : goal.returns-clause-parts
returns-clause-parts c = rw (← c.in_ok-parts_of.ensures.parts) c.of-parts.ensures
