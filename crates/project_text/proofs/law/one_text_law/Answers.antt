use Rattle.project_text.proofs.OneText.{one_project, no_project, one_fault}
use Rattle.project_text.proofs.law.one_text_law.Goals as goal

pub returns : goal.returns
returns c = record { project = one_project; either = no_project; fault = one_fault }
