use Rattle.std.proofs.Common.{◌≡◌, ◌∙◌, length, arith}
use Rattle.plane_terms.specs.Shape.{path}
use Rattle.shape.specs.Given.{rings_in}
use Rattle.topology_terms.specs.Cells as terms
use Rattle.rule_loops.proofs.Parts.{length-path, part_fits, own_taken, later_left, crossings_more}
use Rattle.rule_loops.proofs.crossings.later_crossings.Goals as goal

pub split_at-requires : goal.split_at-requires
split_at-requires c =
    let p = c.part-item.result in
    let m : length (path p.items) ≡ c.saturating_sub.result = omega (arith, p.ok, length-path p.items) in
    part_fits path c.args.parts.now c.loop-part.part-index p c.loop-part-test.true c.part-item.is c.loop-part.rest.now
    c.saturating_sub.result c.loop-part.invariant.rest m

pub loop-part-preserved : goal.loop-part-preserved
loop-part-preserved c =
    let P = c.args.parts.now in
    let k = c.loop-part.part-index in
    let p = c.part-item.result in
    let l = c.loop-part-test.true in
    let e = c.part-item.is in
    let rest = c.loop-part.rest.now in
    let n = c.saturating_sub.result in
    let m : length (path p.items) ≡ n = omega (arith, p.ok, length-path p.items) in
    let h = c.loop-part.invariant.rest in
    let later = c.split_at.ensures.back ∙ later_left path P k p l e rest n h m in
    let own = c.split_at.ensures.front ∙ own_taken path P k p l e rest n h m in
    record {
      rest = later;
      cells = crossings_more P k p l e c.args.off.now c.loop-part.cells c.push_part.new.cells (terms.later_crossings c.args.off.now (rings_in P))
          (rw (own, later) at c.in_ok-push_part.ensures) c.loop-part.invariant.cells;
    }
