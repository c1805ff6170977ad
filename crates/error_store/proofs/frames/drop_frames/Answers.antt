use Rattle.std.proofs.Common.{arith}
use Rattle.error_store.specs.FrameSets.{HasPlace}
use Rattle.error_store.proofs.Framing.{gone_next, gone_all, contained_at}
use Rattle.error_store.proofs.frames.drop_frames.Goals as goal

pub loop-frame-init : goal.loop-frame-init
loop-frame-init c = record { gone = λ q k. (k, λ j l e. absurd (omega arith)); kept = λ q k s. k }

pub loop-frame-preserved : goal.loop-frame-preserved
loop-frame-preserved c = record {
  gone = gone_next c.args.index.now c.loop-frame.index c.drop_frame.new.index c.args.frames.now (HasPlace c.args.staying.now)
      c.loop-frame.frame-index c.frame-item.result c.loop-frame-test.true c.frame-item.is c.loop-frame.invariant.gone c.drop_frame.ensures.left;
  kept = λ q k s. c.drop_frame.ensures.kept q (c.loop-frame.invariant.kept q k s) (λ e. s (contained_at c.args.frames.now c.loop-frame.frame-index
      c.frame-item.result c.loop-frame-test.true c.frame-item.is q e));
}

pub returns-clause-left : goal.returns-clause-left
returns-clause-left c = gone_all c.args.index.now c.loop-frame.index c.args.frames.now (HasPlace c.args.staying.now) c.loop-frame.frame-index
    (omega arith) c.loop-frame.invariant.gone
