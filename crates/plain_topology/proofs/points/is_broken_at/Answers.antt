use Rattle.std.proofs.Common.{arith, sym, ◌∙◌}
use Rattle.std.proofs.lemmas.Bool.{false≢true}
use Rattle.plain_topology.specs.Plain.{features_of}
use Rattle.plain_topology.proofs.PointFacts.{not_below, broken_there, broken_first, broken_subject, broken_partner}
use Rattle.plain_topology.proofs.points.is_broken_at.Goals as goal
use Rattle.plain_topology.proofs.points.is_broken_at.Goals.{then-a-b, else-a-b}

pub returns-then-is_there : goal.returns-then-is_there
returns-then-is_there c = λ p i.
    let F = features_of c.args.points.now in
    let t = c.is_there-then-is_there.ensures p i in
    elim c.if-a-b.branch [
      | then-a-b w ↦
          let u = w.is_there.ensures p i in (
            (λ b. broken_there c.args.class F c.args.a c.args.b p w.if-a-b.true (u.0 (sym w.value-is ∙ c.if-is_there.true)) (t.0 b)),
            (λ h. t.1 (broken_partner c.args.class F c.args.a c.args.b p h)),
          )
      | else-a-b w ↦ absurd (not_below c.args.a c.args.b w.if-a-b.false (sym w.value-is ∙ c.if-is_there.true))
    ]

pub returns-else-is_there : goal.returns-else-is_there
returns-else-is_there c = λ p i.
    let F = features_of c.args.points.now in
    elim c.if-a-b.branch [
      | then-a-b w ↦ (
        (λ b. absurd (false≢true (sym c.if-is_there.false ∙ b))),
        (λ h. w.value-is ∙ (w.is_there.ensures p i).1 (broken_subject c.args.class F c.args.a c.args.b p h)),
      )
      | else-a-b w ↦ (
        (λ b. absurd (false≢true (sym c.if-is_there.false ∙ b))),
        (λ h. let l = broken_first c.args.class F c.args.a c.args.b p h in absurd (omega arith)),
      )
    ]
