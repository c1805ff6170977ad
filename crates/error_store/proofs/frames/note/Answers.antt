use Rattle.error_store.proofs.Noted.{noted_one}
use Rattle.error_store.proofs.frames.note.Goals as goal

pub loop-e-preserved : goal.loop-e-preserved
loop-e-preserved c = rw (c.in_ok-push.ensures.items, c.place_of.ensures) (noted_one c.args.entries.now c.loop-e.e-index c.e-item.result
    c.args.frames.now.items c.loop-e.frames.items c.loop-e-test.true c.e-item.is c.loop-e.invariant)
