use Rattle.script_text.proofs.FixLines.{no_snap}
use Rattle.script_text.proofs.fixes.read_snap.Goals as goal

pub returns-in_err-x : goal.returns-in_err-x
returns-in_err-x c =
    rw c.from_residual-in_err-x.ensures
    (no_snap c.args.text.now c.in_ok-behind_word.field-0.now c.in_ok-rule.rest.now c.in_ok-handle.rest.now c.in_ok-end.rest.now
    c.in_ok-behind_word.ensures.1 c.in_ok-rule.ensures.1 c.in_ok-handle.ensures.1 c.in_ok-end.ensures.1 c.in_err-x.ensures)
