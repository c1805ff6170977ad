use Rattle.std.proofs.Common.{sym, ◌∙◌}
use Rattle.std.proofs.lemmas.Bool.{false≢true}
use Rattle.plain_topology.proofs.HeadlineFacts.{headline_from_checks, ascending_from_headline, entries_from_headline, points_from_headline}
use Rattle.plain_topology.proofs.headline.headline_holds.Goals as goal
use Rattle.plain_topology.proofs.headline.headline_holds.Goals.{then-do_ascend, else-do_ascend}

pub returns-then-says_at_entries : goal.returns-then-says_at_entries
returns-then-says_at_entries c = λ p s.
    let class = c.args.class in
    let ps = c.args.points.now in
    let d = c.args.dirt.now in
    let es = c.args.entries.now in
    elim c.if-do_ascend.branch [
      | then-do_ascend w ↦ (
        (λ b. headline_from_checks p class ps d es s (c.do_ascend.ensures.0 w.if-do_ascend.true)
            (w.says_at_entries.ensures.0 (sym w.value-is ∙ c.if-says_at_entries.true)) (c.says_at_points.ensures.0 b)),
        (λ h. c.says_at_points.ensures.1 (points_from_headline p class ps d es s h)),
      )
      | else-do_ascend w ↦ absurd (false≢true (sym w.if-do_ascend.false ∙ (sym w.value-is ∙ c.if-says_at_entries.true)))
    ]

pub returns-else-says_at_entries : goal.returns-else-says_at_entries
returns-else-says_at_entries c = λ p s.
    let class = c.args.class in
    let ps = c.args.points.now in
    let d = c.args.dirt.now in
    let es = c.args.entries.now in (
      (λ b. absurd (false≢true (sym c.if-says_at_entries.false ∙ b))),
      (λ h. elim c.if-do_ascend.branch [
        | then-do_ascend w ↦ w.value-is ∙ w.says_at_entries.ensures.1 (entries_from_headline p class ps d es s h)
        | else-do_ascend w ↦ w.value-is ∙ c.do_ascend.ensures.1 (ascending_from_headline p class ps d es s h)
      ]),
    )
