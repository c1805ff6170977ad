use Rattle.std.proofs.Common.{ap}
use Rattle.std.proofs.lemmas.Result.{IfOk-weaker}
use Rattle.topology_terms.specs.Project.{InForce}
use Rattle.project_check.proofs.pair.is_sound_part.Goals as goal

pub returns : goal.returns
returns c =
    let number = ap (λ (q : InForce). q.number) c.behind-fresh.view_is in
    IfOk-weaker c.is_sound_pair.result _ _ (λ yes t. record {
      stored = c.of_pair-stored.result.now;
      same = rw (number, c.rule.ensures) at c.of_pair-stored.ensures.same;
      told = rw (number, c.rule.ensures, c.entries-found.ensures) at t;
    })
    c.is_sound_pair.ensures
