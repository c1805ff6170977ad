use Rattle.std.proofs.Common.{subst}
use Rattle.std.proofs.lemmas.List.{take_all}
use Rattle.error_store.proofs.FrameSets.{HasThose, has_more, has_none}
use Rattle.error_store.proofs.frame_set.FrameSet.of.Goals as goal

pub loop-frame-init : goal.loop-frame-init
loop-frame-init c = has_none c.new-keys.result c.new-keys.ensures.empty

pub loop-frame-preserved : goal.loop-frame-preserved
loop-frame-preserved c = has_more c.loop-frame.keys c.insert.new.self c.args.frames.now c.loop-frame.frame-index c.frame-item.result
    c.loop-frame-test.true c.frame-item.is (rw c.key_at.ensures at c.in_ok-insert.ensures.updates.0) c.loop-frame.invariant

pub returns : goal.returns
returns c = subst (HasThose c.loop-frame.keys) (take_all c.loop-frame.frame-index c.args.frames.now c.loop-frame-test.false) c.loop-frame.invariant
