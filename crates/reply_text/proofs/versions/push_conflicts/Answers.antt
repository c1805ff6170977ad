use Rattle.std.proofs.lemmas.Option.{slice_get-get_or}
use Rattle.script_terms.specs.Reply.{conflict_line}
use Rattle.text_out.proofs.Pushing.{said_more}
use Rattle.reply_text.proofs.versions.push_conflicts.Goals as goal

pub loop-handle-preserved : goal.loop-handle-preserved
loop-handle-preserved c =
    let xs = c.args.handles.now in
    let i = c.loop-handle.handle-index in
    said_more conflict_line xs i _ _ _ _ (slice_get-get_or xs i _ c.loop-handle-test.true) c.loop-handle.invariant
    c.in_ok-push_conflict.ensures
