use Rattle.project_text.proofs.Found.{text, only, again, first}
use Rattle.project_text.proofs.read.read_project.Goals as goal

pub returns-clause-text : goal.returns-clause-text
returns-clause-text c = text c.args.text.now c.read_lines.result c.read_lines.ensures

pub returns-clause-only : goal.returns-clause-only
returns-clause-only c = only c.args.text.now c.read_lines.result c.read_lines.ensures

pub returns-clause-again : goal.returns-clause-again
returns-clause-again c = again c.args.text.now c.read_lines.result c.read_lines.ensures

pub returns-clause-first : goal.returns-clause-first
returns-clause-first c = first c.args.text.now c.read_lines.result c.read_lines.ensures
