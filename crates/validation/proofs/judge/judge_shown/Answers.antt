use Rattle.std.proofs.Common.{◌≡◌, ◌∙◌, sym, ap, [], false, append-nil}
use Rattle.std.proofs.lemmas.Result.{on_ok_weaker}
use Rattle.topology_terms.specs.Project.{InForce}
use Rattle.topology_terms.specs.Broken.{judged}
use Rattle.plane_terms.specs.Rectangle.{IsRectangle}
use Rattle.topology_terms.specs.Feature.{env}
use Rattle.validation_laws.proofs.Parts.{part_idle, part_judged}
use Rattle.validation_laws.proofs.Frames.{framable}
use Rattle.validation.proofs.judge.judge_shown.Goals as goal

pub returns-then-not-judges-clause-part : goal.returns-then-not-judges-clause-part
returns-then-not-judges-clause-part g c =
    let row = ap (λ (q : InForce). q.row) c.rule.view_is in
    let t : judged c.args.rule.now.row c.args.f.now ≡ false = rw (← row) (sym (c.judges.ensures c.args.f.now (sym c.class.ensures) (sym c.subtype.ensures))
    ∙ c.if-not-judges.true) in (
      [],
      sym (append-nil _),
      part_idle g.R.RuleSet.meaning g.met.R.RuleSet.views c.args.view.now c.args.rule.now.number
          c.args.rule.now.row c.args.f.now.handle c.args.f.now c.requires.live t,
    )

pub judge_row-requires-clause-shown : goal.judge_row-requires-clause-shown
judge_row-requires-clause-shown g c =
    let f = c.args.f.now in
    record {
      subject = f;
      live = rw c.handle.ensures c.requires.live;
      judged = sym (c.judges.ensures f (sym c.class.ensures) (sym c.subtype.ensures)) ∙ c.if-not-judges.false;
      near = λ h x e. (c.requires.near.forth h x e).1;
      ascending = c.requires.near.ascending;
    }

pub add_findings-requires : goal.add_findings-requires
add_findings-requires g c =
    let M = g.R.RuleSet.meaning in
    let V = c.args.view.now in
    let f = c.args.f.now in
    let row = ap (λ (q : InForce). q.row) c.rule.view_is in
    let cut = rw (row, c.handle.ensures) at c.in_ok-findings.ensures.cut in
    let proper : IsRectangle (env f) = rw (c.env.ensures, c.shape.ensures) at c.corner_law.ensures in
    rw c.into_list.ensures.list (framable M g.met.R.RuleSet.laws g.met.R.RuleSet.right c.args.rule.now.row V f.handle f
    c.in_ok-findings.findings c.requires.near.ascending c.requires.fits c.requires.live proper cut c.into_list.ensures.order)

pub returns-clause-part : goal.returns-clause-part
returns-clause-part g c =
    let V = c.args.view.now in
    let f = c.args.f.now in
    let row = ap (λ (q : InForce). q.row) c.rule.view_is in
    let number = ap (λ (q : InForce). q.number) c.rule.view_is in
    let cut = rw (row, c.handle.ensures) at c.in_ok-findings.ensures.cut in
    on_ok_weaker c.add_findings.result
    (λ h. (
      h.0,
      h.1,
      part_judged g.R.RuleSet.meaning g.met.R.RuleSet.laws g.met.R.RuleSet.views V V c.args.rule.now.number c.args.rule.now.row f.handle f
          c.in_ok-findings.findings h.0 c.requires.near.ascending c.requires.fits c.requires.live c.requires.near cut
          c.into_list.ensures.order (rw (number, c.into_list.ensures.list) at h.2),
    ))
    c.add_findings.ensures
