use Rattle.std.proofs.Common.{sym, ◌∙◌}
use Rattle.std.proofs.lemmas.List.{take_all}
use Rattle.std.proofs.lemmas.Bool.{false≢true}
use Rattle.plain_topology.proofs.PairFacts.{partner_more, partner_same, partners_exact}
use Rattle.plain_topology.proofs.pairs.partners_at.Goals as goal
use Rattle.plain_topology.proofs.pairs.partners_at.Goals.{then-is_broken_at+in_ok-push, else-is_broken_at}

pub loop-b-preserved : goal.loop-b-preserved
loop-b-preserved c =
    let class = c.args.class in
    let ps = c.args.points.now in
    let bs = c.loop-b.partners.items in
    elim c.if-is_broken_at.branch [
      | then-is_broken_at+in_ok-push w ↦
          rw w.partners-is (rw w.in_ok-push.ensures.items
          (partner_more class ps c.args.a c.args.place c.loop-b.b-index bs c.b-item.result c.loop-b-test.true c.b-item.is
          c.loop-b.invariant (λ p i. (c.is_broken_at.ensures p i).0 w.if-is_broken_at.true)))
      | else-is_broken_at w ↦
          rw w.partners-is
          (partner_same class ps c.args.a c.args.place c.loop-b.b-index bs c.b-item.result c.loop-b-test.true c.b-item.is
          c.loop-b.invariant (λ p i h. false≢true (sym w.if-is_broken_at.false ∙ (c.is_broken_at.ensures p i).1 h)))
    ]

pub returns-clause-exact : goal.returns-clause-exact
returns-clause-exact c =
    partners_exact c.args.class c.args.points.now c.args.a c.args.place c.loop-b.b-index c.loop-b.partners.items
    (take_all c.loop-b.b-index c.args.points.now c.loop-b-test.false) c.loop-b.invariant
