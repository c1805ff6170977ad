use Rattle.std.proofs.Common.{◌≡◌, ◌∙◌, ◌++◌, [], ap, drop, subst}
use Rattle.std.specs.Prelude.{IfOk, List}
use Rattle.plane_terms.specs.Cell.{Cell}
use Rattle.topology_terms.specs.Cells.{uncovered}
use Rattle.rule_loops.specs.Open.{outsides}
use Rattle.rule_loops.proofs.Chosen.{left_in_turn}
use Rattle.rule_loops.proofs.OpenPieces.{held_off}
use Rattle.rule_loops.proofs.uncovered.left_uncovered.Goals as goal

pub returns-clause-left : goal.returns-clause-left
returns-clause-left c =
    let S = c.args.side in
    let o = c.args.except in
    let V = c.args.view.now in
    let cells : List Cell = c.args.cells.now in
    let near = c.in_ok-near.near in
    let same = left_in_turn cells c.in_ok-left.left near.held.items (outsides S o (drop near.rest V)) (outsides S o V)
    (c.in_ok-left.ensures ∙ ap (uncovered cells) c.deref.ensures.value)
    (c.in_ok-near.ensures.all ∙ ap (λ dss. dss ++ outsides S o V) c.new.ensures.items) in
    subst (λ (all : List Cell). IfOk c.left_by_turns.result (λ left. left ≡ all)) same c.left_by_turns.ensures.left

pub left_of_cells-requires-clause-off_walls : goal.left_of_cells-requires-clause-off_walls
left_of_cells-requires-clause-off_walls c =
    let near = c.in_ok-near.near in
    let S = c.args.side in
    let o = c.args.except in
    let V = c.args.view.now in
    rw (c.deref.ensures.value) (held_off S o V near.held.items (outsides S o (drop near.rest V)) []
    (c.in_ok-near.ensures.all ∙ ap (λ dss. dss ++ outsides S o V) c.new.ensures.items) tt)
