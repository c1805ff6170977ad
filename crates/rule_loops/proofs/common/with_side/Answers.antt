use Rattle.std.proofs.Common.{◌≡◌, sym, ◌∙◌, Bool, List, refl}
use Rattle.plane_terms.specs.Cell.{Cell}
use Rattle.topology_terms.specs.Feature.{Feature, is_on_side}
use Rattle.topology_terms.specs.Plans.{finding_of}
use Rattle.rule_core.proofs.Partners.{found_below, found_more, found_same}
use Rattle.rule_loops.proofs.common.with_side.Goals.{then-holds+in_ok-cells+in_ok-push_cells, else-holds}
use Rattle.rule_core.proofs.Works.{judged_is}
use Rattle.rule_loops.proofs.common.with_side.Goals as goal

pub push_cells-requires : goal.push_cells-requires
push_cells-requires g c =
    rw (c.loop-i.invariant.found, c.handle.ensures)
    (found_below (g.C.Common.common c.args.common.now)
    (is_on_side c.args.side) c.args.view.now c.loop-i.i c.feature-other.result.now c.requires c.feature-other.ensures)

pub loop-i-preserved : goal.loop-i-preserved
loop-i-preserved g c =
    let h = c.feature-other.result.now in
    let S = c.args.side in
    let cells : Feature → List Cell = g.C.Common.common c.args.common.now in
    let test : Feature → Bool = is_on_side S in
    let V = c.args.view.now in
    let i = c.loop-i.i in
    elim c.if-holds.branch [
      | then-holds+in_ok-cells+in_ok-push_cells w ↦
          let part : finding_of w.handle.result w.in_ok-cells.cells
          ≡ finding_of h.handle (cells h) = rw (w.handle.ensures, w.in_ok-cells.ensures.cells) refl in
          record {
            found = found_more cells test V i h c.loop-i.findings
                (finding_of w.handle.result w.in_ok-cells.cells) c.if-holds.findings c.feature-other.ensures
                (sym c.holds.ensures ∙ w.if-holds.true) c.loop-i.invariant.found part
                (w.findings-is ∙ w.in_ok-push_cells.ensures);
            uncounted = judged_is w.work-is ∙ (w.cells.ensures.uncounted ∙ c.loop-i.invariant.uncounted);
          }
      | else-holds w ↦ record {
        found = w.findings-is ∙ found_same cells test V i h c.loop-i.findings c.feature-other.ensures
            (sym c.holds.ensures ∙ w.if-holds.false) c.loop-i.invariant.found;
        uncounted = judged_is w.work-is ∙ c.loop-i.invariant.uncounted;
      }
    ]
