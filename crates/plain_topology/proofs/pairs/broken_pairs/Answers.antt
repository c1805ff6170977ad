use Rattle.std.proofs.lemmas.List.{take_all}
use Rattle.plain_topology.proofs.PairFacts.{pairs_more, pairs_exact}
use Rattle.plain_topology.proofs.pairs.broken_pairs.Goals as goal

pub loop-a-preserved : goal.loop-a-preserved
loop-a-preserved c =
    rw (c.in_ok-push_pairs.ensures, c.deref.ensures.value)
    (pairs_more c.args.class c.args.points.now c.loop-a.a-index c.loop-a.pairs.items c.in_ok-partners.partners.items c.a-item.result
    c.loop-a-test.true c.a-item.is c.loop-a.invariant c.in_ok-partners.ensures.exact c.in_ok-partners.ensures.ordered)

pub returns-clause-exact : goal.returns-clause-exact
returns-clause-exact c =
    pairs_exact c.args.class c.args.points.now c.loop-a.a-index c.loop-a.pairs.items
    (take_all c.loop-a.a-index c.args.points.now c.loop-a-test.false) c.loop-a.invariant
