use Rattle.std.proofs.Common.{◌≡◌, ◌∙◌, ◌++◌, drop, take, length, ◌-◌, ap, map, sym, subst}
use Rattle.std.proofs.lemmas.Result.{on_ok_weaker}
use Rattle.plane_terms.specs.Carve.{kept}
use Rattle.plane_terms.specs.Columns.{at_wall}
use Rattle.column_cut.specs.Pieces.{slot_cell, stretch_cell}
use Rattle.column_cut.specs.Stretches.{AreStacked}
use Rattle.column_cut.proofs.Apart.{stacked_drop, rest_from, kept_from}
use Rattle.column_cut.proofs.push.push_at_wall.Goals as goal

pub push_upward-requires : goal.push_upward-requires
push_upward-requires c = subst AreStacked (sym (rest_from c.first_reaching-first.result c.args.stretches.now))
    (stacked_drop c.first_reaching-first.result c.args.stretches.now c.requires)

pub returns : goal.returns
returns c =
    let x = c.args.x.now in
    let slot = c.args.slot.now in
    let ss = c.args.stretches.now in
    let n = c.first_reaching-first.result in
    let new = c.push_upward.new.cells in
    let old = c.args.cells.now in
    let all : new ≡ old ++ kept (at_wall x (slot_cell slot) (map stretch_cell (take (length ss - n) (drop n ss))))
    → new ≡ old ++ kept (at_wall x (slot_cell slot) (map stretch_cell ss)) = λ e. e
    ∙ ap (λ us. old ++ kept (at_wall x (slot_cell slot) (map stretch_cell us))) (rest_from n ss)
    ∙ ap (λ cs. old ++ cs) (kept_from x slot n ss c.first_reaching-first.ensures.before) in
    on_ok_weaker c.push_upward.result all c.push_upward.ensures
