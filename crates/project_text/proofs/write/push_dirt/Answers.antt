use Rattle.std.proofs.Common.{refl}
use Rattle.std.proofs.lemmas.Option.{slice_get_read}
use Rattle.project_text.specs.Pushed.{dirty_text}
use Rattle.text_out.proofs.Pushing.{said_more}
use Rattle.project_text.proofs.write.push_dirt.Goals as goal

pub loop-r-preserved : goal.loop-r-preserved
loop-r-preserved c =
    said_more dirty_text _ _ _ _ _ _ (slice_get_read _ _ _ _ refl c.loop-r-test.true c.r-item.is)
    c.loop-r.invariant c.in_ok-push_dirty_line.ensures
