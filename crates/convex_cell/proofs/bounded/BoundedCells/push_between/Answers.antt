use Rattle.std.proofs.Common.{◌≡◌, to_z, of_z, w32}
use Rattle.std.proofs.lemmas.Int.{to_z-of_z}
use Rattle.convex_cell.proofs.bounded.BoundedCells.push_between.Goals as goal

pub bounds_along-bounds-requires-clause-along : goal.bounds_along-bounds-requires-clause-along
bounds_along-bounds-requires-clause-along c = λ p m.
    let left : to_z w32 (of_z w32 c.args.left) ≡ c.args.left = to_z-of_z w32 c.args.left c.ranges.left in
    let right : to_z w32 (of_z w32 c.args.right) ≡ c.args.right = to_z-of_z w32 c.args.right c.ranges.right in
    (rw (left, right) at c.span_between.ensures.sound) p.x p.w p.positive (c.requires.after p m) (c.requires.before p m)
