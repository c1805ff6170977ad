use Rattle.std.proofs.Common.{arith, refl}
use Rattle.std.proofs.lemmas.Int.{ints}
use Rattle.grid_plane.proofs.Numbers.{reach_read, narrowed}
use Rattle.grid_plane.proofs.rect.Rect.of.Goals as goal

pub returns-then-x0-x1-clause-refused : goal.returns-then-x0-x1-clause-refused
returns-then-x0-x1-clause-refused c = (
  (
    reach_read _ c.ranges.x0 (c.is_in_reach.ensures.0 c.if-not-is_in_reach.false),
    (
      reach_read _ c.ranges.y0 (c.is_in_reach-2.ensures.0 c.if-not-is_in_reach-2.false),
      (
        reach_read _ c.ranges.x1 (c.is_in_reach-3.ensures.0 c.if-not-is_in_reach-3.false),
        (reach_read _ c.ranges.y1 (c.is_in_reach-4.ensures.0 c.if-not-is_in_reach-4.false), tt),
      ),
    ),
  ),
  λ g. omega (arith, ints, g.wide),
)

pub returns-then-y0-y1-clause-refused : goal.returns-then-y0-y1-clause-refused
returns-then-y0-y1-clause-refused c = (
  (
    reach_read _ c.ranges.x0 (c.is_in_reach.ensures.0 c.if-not-is_in_reach.false),
    (
      reach_read _ c.ranges.y0 (c.is_in_reach-2.ensures.0 c.if-not-is_in_reach-2.false),
      (
        reach_read _ c.ranges.x1 (c.is_in_reach-3.ensures.0 c.if-not-is_in_reach-3.false),
        (reach_read _ c.ranges.y1 (c.is_in_reach-4.ensures.0 c.if-not-is_in_reach-4.false), tt),
      ),
    ),
  ),
  λ g. omega (arith, ints, g.high),
)

pub overflow_cast-result : goal.overflow_cast-result
overflow_cast-result c =
    let a = reach_read _ c.ranges.x0 (c.is_in_reach.ensures.0 c.if-not-is_in_reach.false) in
    omega (arith, ints)

pub overflow_cast-result-2 : goal.overflow_cast-result-2
overflow_cast-result-2 c =
    let a = reach_read _ c.ranges.y0 (c.is_in_reach-2.ensures.0 c.if-not-is_in_reach-2.false) in
    omega (arith, ints)

pub overflow_cast-result-3 : goal.overflow_cast-result-3
overflow_cast-result-3 c =
    let a = reach_read _ c.ranges.x1 (c.is_in_reach-3.ensures.0 c.if-not-is_in_reach-3.false) in
    omega (arith, ints)

pub invariant_of-result : goal.invariant_of-result
invariant_of-result c =
    let a = reach_read _ c.ranges.x0 (c.is_in_reach.ensures.0 c.if-not-is_in_reach.false) in
    let b = reach_read _ c.ranges.y0 (c.is_in_reach-2.ensures.0 c.if-not-is_in_reach-2.false) in
    let d = reach_read _ c.ranges.x1 (c.is_in_reach-3.ensures.0 c.if-not-is_in_reach-3.false) in
    let e = reach_read _ c.ranges.y1 (c.is_in_reach-4.ensures.0 c.if-not-is_in_reach-4.false) in
    omega (arith, ints)

pub returns-clause-made : goal.returns-clause-made
returns-clause-made c =
    let a = reach_read c.args.x0 c.ranges.x0 (c.is_in_reach.ensures.0 c.if-not-is_in_reach.false) in
    let b = reach_read c.args.y0 c.ranges.y0 (c.is_in_reach-2.ensures.0 c.if-not-is_in_reach-2.false) in
    let d = reach_read c.args.x1 c.ranges.x1 (c.is_in_reach-3.ensures.0 c.if-not-is_in_reach-3.false) in
    let e = reach_read c.args.y1 c.ranges.y1 (c.is_in_reach-4.ensures.0 c.if-not-is_in_reach-4.false) in
    rw (narrowed c.args.x0 a, narrowed c.args.y0 b, narrowed c.args.x1 d, narrowed c.args.y1 e)
    (refl, record { proper = record { wide = omega (arith, ints); high = omega (arith, ints) }; on_grid = omega (arith, ints) })
