use Rattle.std.proofs.lemmas.Option.{slice_get-get_or}
use Rattle.script_terms.specs.Reply.{corner_line}
use Rattle.text_out.proofs.Pushing.{said_more}
use Rattle.reply_text.proofs.corners.push_corner_lines.Goals as goal

pub loop-corner-preserved : goal.loop-corner-preserved
loop-corner-preserved c =
    let xs = c.args.corners.now in
    let i = c.loop-corner.corner-index in
    said_more corner_line xs i _ _ _ _ (slice_get-get_or xs i _ c.loop-corner-test.true) c.loop-corner.invariant
    c.in_ok-push_corner_line.ensures
