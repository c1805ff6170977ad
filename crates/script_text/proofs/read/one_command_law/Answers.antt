use Rattle.script_text.proofs.OneCommand.{one_command}
use Rattle.script_text.proofs.read.one_command_law.Goals as goal

pub returns : goal.returns
returns c = one_command c.args.line.now
