use Rattle.std.proofs.Common.{◌∙◌, ◌++◌, ◌∷◌, [], ap, sym, take}
use Rattle.plane_terms.specs.Cell.{Cell, HasPoint}
use Rattle.plane_terms.proofs.ListLemmas.{every_got}
use Rattle.topology_terms.specs.Cells.{uncovered}
use Rattle.validation_laws.proofs.Joining.{take_one}
use Rattle.rule_loops.specs.Apart.{uncovered-nil}
use Rattle.rule_loops.proofs.Opened.{uncovered_joined}
use Rattle.rule_loops.proofs.remainder.left_of_cells.Goals as goal

pub loop-i-init : goal.loop-i-init
loop-i-init c = c.new-left.ensures ∙ sym (uncovered-nil c.args.near.now)

pub push_left_of-requires-clause-some : goal.push_left_of-requires-clause-some
push_left_of-requires-clause-some c = every_got HasPoint c.args.cells.now c.loop-i.i c.cell.result c.requires.some c.cell.ensures

pub loop-i-preserved : goal.loop-i-preserved
loop-i-preserved c =
    let cs = c.args.cells.now in
    let i = c.loop-i.i in
    let d : Cell = c.cell.result in
    let near = c.args.near.now in
    c.in_ok-push_left_of.ensures ∙ (ap (λ us. us ++ uncovered (d ∷ []) near) c.loop-i.invariant
    ∙ sym (ap (λ us. uncovered us near) (take_one cs i d c.cell.ensures) ∙ uncovered_joined (take i cs) (d ∷ []) near))
