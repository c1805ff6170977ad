use Rattle.script_text.proofs.OneFault.{one_line_fault}
use Rattle.script_text.proofs.read.one_fault_law.Goals as goal

pub returns : goal.returns
returns c = one_line_fault c.args.line.now
