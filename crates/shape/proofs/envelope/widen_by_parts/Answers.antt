use Rattle.std.proofs.Common.{◌∙◌, ◌+◌, drop, ap}
use Rattle.shape.specs.Given.{rings_in, polygons_in, all_rings, all_vertices}
use Rattle.shape.proofs.Boxes.{box_step, reach_step}
use Rattle.shape.proofs.Dropped.{part_dropped}
use Rattle.shape.proofs.envelope.widen_by_parts.Goals as goal

pub loop-part-preserved : goal.loop-part-preserved
loop-part-preserved c =
    let i = c.loop-part.part-index in
    let rest = all_vertices (all_rings (polygons_in (drop (i + 1) c.args.parts.now))) in
    let whole = all_vertices (all_rings (polygons_in (drop i c.args.parts.now))) in
    let items = all_vertices (rings_in c.part-item.result.items) in
    let now = all_vertices (rings_in c.deref.result.now) in
    let e = ap (λ rs. all_vertices (rings_in rs)) c.deref.ensures.value in
    let d = part_dropped c.args.parts.now i c.part-item.result c.loop-part-test.true c.part-item.is in (
      box_step c.loop-part.wide c.widen_by_rings-wide.result items now rest whole e c.widen_by_rings-wide.ensures.value d
          ∙ c.loop-part.invariant.0,
      λ f. c.loop-part.invariant.1 (reach_step items now rest whole e c.widen_by_rings-wide.ensures.reach d f),
    )
