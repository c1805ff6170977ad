use Rattle.script_text.proofs.Spelled.{only_one}
use Rattle.script_text.proofs.read.read_line.Goals as goal

pub returns-clause-only : goal.returns-clause-only
returns-clause-only c = only_one c.args.line.now _ c.read_any.ensures.found c.read_any.ensures.refused
