use Rattle.cell_laws.proofs.Meets.{kept_have_points}
use Rattle.rule_loops.proofs.area.area_left.Goals as goal

pub left_uncovered-requires : goal.left_uncovered-requires
left_uncovered-requires c = rw (c.in_ok-cells.ensures.cells) (kept_have_points _)
