use Rattle.std.proofs.Common.{◌≡◌, ◌∙◌, sym, length, drop, arith}
use Rattle.std.proofs.lemmas.List.{drop-drop}
use Rattle.plane_terms.specs.Shape.{path}
use Rattle.shape.specs.Given.{rings_in}
use Rattle.topology_terms.specs.Cells as terms
use Rattle.rule_loops.proofs.Parts.{length-path, part_fits, own_taken, later_left, crossings_more}
use Rattle.rule_loops.proofs.Later.{fits_behind, between_taken}
use Rattle.rule_loops.proofs.own_line.crossings_by_block.Goals as goal

pub overflow_add-end : goal.overflow_add-end
overflow_add-end c =
    let p = c.part-item.result in
    let ts = c.args.line.now in
    let m : length (path p.items) ≡ c.saturating_sub.result = omega (arith, p.ok, length-path p.items) in
    let f = part_fits path c.args.parts.now c.loop-part.part-index p c.loop-part-test.true c.part-item.is (drop c.loop-part.from ts)
    c.saturating_sub.result c.loop-part.invariant.rest m in
    let b = fits_behind c.loop-part.from c.saturating_sub.result ts c.loop-part.invariant.within f in
    omega (arith, b, c.len.ensures)

pub push_part-requires-clause-ended : goal.push_part-requires-clause-ended
push_part-requires-clause-ended c =
    let p = c.part-item.result in
    let ts = c.args.line.now in
    let m : length (path p.items) ≡ c.saturating_sub.result = omega (arith, p.ok, length-path p.items) in
    let f = part_fits path c.args.parts.now c.loop-part.part-index p c.loop-part-test.true c.part-item.is (drop c.loop-part.from ts)
    c.saturating_sub.result c.loop-part.invariant.rest m in
    fits_behind c.loop-part.from c.saturating_sub.result ts c.loop-part.invariant.within f

pub loop-part-preserved : goal.loop-part-preserved
loop-part-preserved c =
    let P = c.args.parts.now in
    let k = c.loop-part.part-index in
    let p = c.part-item.result in
    let l = c.loop-part-test.true in
    let e = c.part-item.is in
    let ts = c.args.line.now in
    let from = c.loop-part.from in
    let n = c.saturating_sub.result in
    let m : length (path p.items) ≡ n = omega (arith, p.ok, length-path p.items) in
    let h = c.loop-part.invariant.rest in
    let f = part_fits path P k p l e (drop from ts) n h m in
    let later = sym (drop-drop n from ts) ∙ later_left path P k p l e (drop from ts) n h m in
    let own = between_taken from n ts ∙ own_taken path P k p l e (drop from ts) n h m in
    record {
      within = fits_behind from n ts c.loop-part.invariant.within f;
      rest = later;
      cells = crossings_more P k p l e c.args.off.now c.loop-part.cells c.push_part.new.cells (terms.later_crossings c.args.off.now (rings_in P))
          (rw (own, later) at c.in_ok-push_part.ensures) c.loop-part.invariant.cells;
    }
