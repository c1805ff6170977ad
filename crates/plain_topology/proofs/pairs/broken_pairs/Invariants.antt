use Rattle.plain_topology.proofs.PairFacts.{IsPairsUpTo}
use Rattle.plain_topology.proofs.pairs.broken_pairs.Given as goal

abbrev pub invariant-loop-a : goal.invariant-loop-a
invariant-loop-a l = IsPairsUpTo l.class l.points l.a-index l.pairs.items
