use Rattle.std.proofs.Common.{sym, ap, ◌∙◌}
use Rattle.topology_terms.specs.Project.{InForce}
use Rattle.project_text.proofs.Lasts.{last_number_at}
use Rattle.project_text.proofs.said.last_number.Goals as goal

pub returns-in-Some : goal.returns-in-Some
returns-in-Some c =
    ap (λ (q : InForce). q.number) c.rule.view_is
    ∙ sym (last_number_at (λ (q : InForce). q.number) c.args.rules.now c.in-Some.rule.now (sym c.in-Some.ensures.value))
