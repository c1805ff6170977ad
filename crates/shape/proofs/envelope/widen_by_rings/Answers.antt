use Rattle.std.proofs.Common.{◌∙◌, ◌+◌, drop}
use Rattle.shape.specs.Given.{rings_in, all_vertices}
use Rattle.shape.proofs.Boxes.{box_step, reach_step}
use Rattle.shape.proofs.Dropped.{ring_dropped}
use Rattle.shape.proofs.envelope.widen_by_rings.Goals as goal

pub loop-ring-preserved : goal.loop-ring-preserved
loop-ring-preserved c =
    let i = c.loop-ring.ring-index in
    let rest = all_vertices (rings_in (drop (i + 1) c.args.rings.now)) in
    let whole = all_vertices (rings_in (drop i c.args.rings.now)) in
    let r = c.ring-item.result in
    let d = ring_dropped c.args.rings.now i r c.loop-ring-test.true c.ring-item.is in (
      box_step c.loop-ring.wide c.widen-wide.result r.items c.deref.result.now rest whole c.deref.ensures.value c.widen-wide.ensures.value d
          ∙ c.loop-ring.invariant.0,
      λ f. c.loop-ring.invariant.1 (reach_step r.items c.deref.result.now rest whole c.deref.ensures.value c.widen-wide.ensures.reach d f),
    )
