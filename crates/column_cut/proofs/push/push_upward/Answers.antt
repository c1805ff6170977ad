use Rattle.std.proofs.Common.{◌∷◌, ◌++◌, [], map, refl, ◌∙◌, sym, ap, append-nil}
use Rattle.plane_terms.specs.HalfPlane.{x_is}
use Rattle.plane_terms.specs.Columns.{at_wall}
use Rattle.column_cut.specs.Pieces.{slot_cell, stretch_cell}
use Rattle.column_cut.proofs.Apart.{none_kept_above}
use Rattle.column_cut.proofs.Steps.{push_step}
use Rattle.column_cut.proofs.push.push_upward.Goals as goal

pub loop-stretch-preserved : goal.loop-stretch-preserved
loop-stretch-preserved c =
    let x = c.args.x.now in
    let slot = slot_cell c.args.slot.now in
    push_step (λ ws. at_wall x slot (map stretch_cell ws)) (λ w. (x_is x ∷ slot ++ stretch_cell w) ∷ [])
    (λ g gs. refl) c.args.stretches.now c.loop-stretch.stretch-index c.stretch-item.result c.loop-stretch-test.true c.stretch-item.is
    c.loop-stretch.cells c.push_piece.new.cells _ c.loop-stretch.invariant c.in_ok-push_piece.ensures

pub returns-then-begins_above : goal.returns-then-begins_above
returns-then-begins_above c =
    let none = none_kept_above c.args.x.now c.args.slot.now c.args.stretches.now c.loop-stretch.stretch-index c.stretch-item.result
    c.requires c.loop-stretch-test.true c.stretch-item.is c.if-begins_above.ensures in
    sym (append-nil c.loop-stretch.cells) ∙ ap (λ cs. c.loop-stretch.cells ++ cs) (sym none) ∙ c.loop-stretch.invariant
