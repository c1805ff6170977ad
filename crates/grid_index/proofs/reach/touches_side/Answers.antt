use Rattle.std.proofs.Common.{◌≡◌, false, rules}
use Rattle.std.specs.Ordering.{int_eq}
use Rattle.grid_index.proofs.reach.touches_side.Goals as goal

pub returns-else-x1 : goal.returns-else-x1
returns-else-x1 c =
    let west : int_eq c.args.reach.now.x0 c.args.r.now.x0 ≡ false = search rules in
    let south : int_eq c.args.reach.now.y0 c.args.r.now.y0 ≡ false = search rules in
    let east : int_eq c.args.reach.now.x1 c.args.r.now.x1 ≡ false = search rules in
    rw (west, south, east) (search rules)
