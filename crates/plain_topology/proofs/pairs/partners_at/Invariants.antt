use Rattle.plain_topology.proofs.PairFacts.{IsPartnersUpTo}
use Rattle.plain_topology.proofs.pairs.partners_at.Given as goal

abbrev pub invariant-loop-b : goal.invariant-loop-b
invariant-loop-b l = IsPartnersUpTo l.class l.points l.a l.place l.b-index l.partners.items
