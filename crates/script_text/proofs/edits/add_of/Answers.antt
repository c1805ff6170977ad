use Rattle.script_text.proofs.Spelled.{add_fault}
use Rattle.script_text.proofs.edits.add_of.Goals as goal

pub returns-in-Err : goal.returns-in-Err
returns-in-Err c = add_fault c.args.editor c.args.own c.args.text.now c.in-Err.fault c.from.result c.from.ensures c.in-Err.ensures.found
