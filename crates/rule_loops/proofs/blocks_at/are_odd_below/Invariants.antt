use Rattle.std.proofs.Common.{◌≡◌, ◌+◌, cond}
use Rattle.plane_terms.specs.Lists.{how_many, is_odd}
use Rattle.plane_terms.specs.Polygon.{counts}
use Rattle.plane_terms.specs.Point.{point_at}
use Rattle.rule_loops.specs.Blocks.{left_from}
use Rattle.rule_loops.proofs.blocks_at.are_odd_below.Given as goal

abbrev pub invariant-loop-k : goal.invariant-loop-k
invariant-loop-k l =
    is_odd (cond l.odd 1 0 + how_many (λ s. counts s (point_at l.place)) (left_from l.k l.blocks))
    ≡ is_odd (how_many (λ s. counts s (point_at l.place)) l.blocks)
