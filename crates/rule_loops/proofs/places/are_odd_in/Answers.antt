use Rattle.std.proofs.Common.{sym, ◌∙◌, true, false}
use Rattle.plane_terms.specs.Segment.{Segment}
use Rattle.plane_terms.specs.Polygon.{counts}
use Rattle.plane_terms.specs.Point.{point_at}
use Rattle.rule_loops.proofs.Spots.{odd_more}
use Rattle.rule_loops.proofs.places.are_odd_in.Goals.{then-is_below, else-is_below}
use Rattle.rule_loops.proofs.places.are_odd_in.Goals as goal

pub loop-segment-preserved : goal.loop-segment-preserved
loop-segment-preserved c =
    let s = c.segment-item.result in
    let ss = c.args.segments.now in
    let i = c.loop-segment.segment-index in
    elim c.if-is_below.branch [
      | then-is_below w ↦ w.odd-is ∙ odd_more (λ (t : Segment). counts t (point_at c.args.place)) ss i s true c.loop-segment.odd
          c.loop-segment-test.true c.segment-item.is (sym c.is_below.ensures ∙ w.if-is_below.true) c.loop-segment.invariant
      | else-is_below w ↦ w.odd-is ∙ odd_more (λ (t : Segment). counts t (point_at c.args.place)) ss i s false c.loop-segment.odd
          c.loop-segment-test.true c.segment-item.is (sym c.is_below.ensures ∙ w.if-is_below.false) c.loop-segment.invariant
    ]
