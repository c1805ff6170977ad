use Rattle.topology_terms.specs.Meaning.{Finding, by_partner}
use Rattle.sound_laws.proofs.Keyed.{numbers, ascending_last}
use Rattle.rule_core.proofs.findings.Findings.push.Goals as goal

pub invariant_of-self-2 : goal.invariant_of-self-2
invariant_of-self-2 c = rw (c.in_ok-push.ensures.items)
    (ascending_last by_partner (numbers (λ (x : Finding). x.other)) c.self.inside.findings.items c.args.finding c.self.invariant
    (rw (← c.self.view_is) at c.requires))
