use Rattle.std.proofs.Common.{◌≡◌, ℕ, ◌-◌, ◌+◌, ◌≤◌, List, take, take-add, drop, arith}
use Rattle.plane_terms.specs.Point.{Place}
use Rattle.shape.proofs.same.are_same_vertices.Goals as goal

-- the first m are equal where the first n are, and those from there to m
first_equal : (n m : ℕ) (xs ys : List Place) → n ≤ m → take n xs ≡ take n ys → take (m - n) (drop n xs) ≡ take (m - n) (drop n ys)
    → take m xs ≡ take m ys
first_equal n m xs ys l e k =
    let s : n + (m - n) ≡ m = omega arith in
    let a = take-add n (m - n) xs in
    let b = take-add n (m - n) ys in
    let equal : take (n + (m - n)) xs ≡ take (n + (m - n)) ys = cc in
    rw s at equal

pub loop-start-preserved : goal.loop-start-preserved
loop-start-preserved c = (
  omega arith,
  first_equal c.loop-start.start (c.loop-start.start + c.min.result) c.args.ring.now c.args.other.now (omega arith) c.loop-start.invariant.1
      (c.is_same_block.ensures.0 c.if-not-is_same_block.false),
)
