use Rattle.std.proofs.Common.{sym}
use Rattle.script_text.proofs.Spelled.{blank, formless}
use Rattle.script_text.proofs.Groups.{no_form}
use Rattle.script_text.proofs.read.read_any.Goals as goal

pub returns-then-is_skipped-clause-found : goal.returns-then-is_skipped-clause-found
returns-then-is_skipped-clause-found c = blank c.args.line.now c.if-line-gt-LINE_LIMIT.false (sym c.if-is_skipped.ensures)

pub returns-in-None-clause-refused : goal.returns-in-None-clause-refused
returns-in-None-clause-refused c =
    formless c.args.line.now c.if-line-gt-LINE_LIMIT.false (no_form c.args.line.now (sym c.if-is_skipped.ensures) c.in-None.ensures)
