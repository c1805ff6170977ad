use Rattle.project_text.proofs.OneText.{one_project}
use Rattle.project_text.proofs.Grammar.{project_text, text_project, one_of_two, newer, older, older_back}
use Rattle.project_text.proofs.law.project_text_law.Goals as goal

pub returns : goal.returns
returns c = record {
  read = λ t p. (project_text t p, text_project t p);
  project = λ t p q h k. one_project t p q (text_project t p h) (text_project t q k);
  text = λ t p h. one_of_two t p h;
  newer = λ p. ((λ h. h.record_of), newer p);
  older = λ p. (older p, λ h. older_back p h.0 h.1);
}
