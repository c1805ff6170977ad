use Rattle.std.proofs.Common.{refl}
use Rattle.std.proofs.lemmas.Option.{slice_get_read}
use Rattle.project_text.specs.Pushed.{error_texts}
use Rattle.text_out.proofs.Pushing.{said_more}
use Rattle.project_text.proofs.write.push_run.Goals as goal

pub loop-entry-preserved : goal.loop-entry-preserved
loop-entry-preserved c =
    said_more error_texts _ _ _ _ _ _ (slice_get_read _ _ _ _ refl c.loop-entry-test.true c.entry-item.is)
    c.loop-entry.invariant c.in_ok-push_error.ensures
