use Rattle.std.proofs.Common.{sym, ◌∙◌, ap}
use Rattle.plane_terms.specs.Shape.{segments_of}
use Rattle.topology_terms.specs.Cells.{uncovered, out_of_segments}
use Rattle.rule_loops.proofs.More.{segment_more, segment_same, segment_none}
use Rattle.rule_loops.proofs.sides.carved_segment.Goals.{then-is_beside+in_ok-left, else-is_beside}
use Rattle.rule_loops.proofs.sides.carved_segment.Goals as goal

pub returns-then-len-eq0 : goal.returns-then-len-eq0
returns-then-len-eq0 c = segment_none c.args.segment.now c.args.side c.args.view.now c.loop-i.i c.loop-i.left c.loop-i.invariant
    (sym c.len.ensures ∙ c.if-len-eq0.true)

pub loop-i-preserved : goal.loop-i-preserved
loop-i-preserved c =
    let s = c.args.segment.now in
    let g = c.feature-other.result.now in
    let n = c.args.side in
    let V = c.args.view.now in
    let i = c.loop-i.i in
    elim c.if-is_beside.branch [
      | then-is_beside+in_ok-left w ↦
          w.left-is ∙ (w.in_ok-left.ensures
          ∙ (ap (λ us. uncovered c.loop-i.left (out_of_segments s us)) (w.of.ensures ∙ ap segments_of w.shape.ensures)
          ∙ segment_more s n V i g c.loop-i.left c.feature-other.ensures
          (sym c.is_beside.ensures ∙ w.if-is_beside.true) c.loop-i.invariant))
      | else-is_beside w ↦ w.left-is ∙ segment_same s n V i g c.loop-i.left c.feature-other.ensures
          (sym c.is_beside.ensures ∙ w.if-is_beside.false) c.loop-i.invariant
    ]
