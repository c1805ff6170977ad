use Rattle.shape.proofs.Framed.{round_more}
use Rattle.shape.proofs.frames.frame_of.Goals as goal

pub loop-segment-preserved : goal.loop-segment-preserved
loop-segment-preserved c =
    round_more c.loop-segment.frame c.join-frame.result c.args.segments.now c.loop-segment.segment-index c.segment-item.result
    c.loop-segment-test.true c.segment-item.is c.env.ensures.valid.proper (rw (c.env.ensures.value) at c.join-frame.ensures.meaning)
    c.loop-segment.invariant
