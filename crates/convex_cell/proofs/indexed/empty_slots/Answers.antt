use Rattle.std.proofs.Common.{[], refl, arith}
use Rattle.convex_cell.proofs.Chains.{none_chained, all_none}
use Rattle.convex_cell.proofs.indexed.empty_slots.Goals as goal

pub returns : goal.returns
returns c = λ _. none_chained [] [] c.in_ok-from_elem.field-0.items refl refl (omega (arith, c.in_ok-from_elem.ensures.len))
    (all_none 1021 c.in_ok-from_elem.field-0.items (c.in_ok-from_elem.ensures.items_if_clones_equal (λ y e. e)))
