use Rattle.std.proofs.Common.{arith}
use Rattle.plain_topology.proofs.PointFacts.{not_below}
use Rattle.plain_topology.proofs.OverlapFacts.{overlap_first}
use Rattle.plain_topology.proofs.overlaps.is_overlap_at.Goals as goal

pub returns-else-a-b : goal.returns-else-a-b
returns-else-a-b c = λ p i. (
  (λ t. absurd (not_below c.args.a c.args.b c.if-a-b.false t)),
  (λ k. let l = ((overlap_first c.args.class c.args.features.now c.args.a c.args.b p).1 k).0 in absurd (omega arith)),
)
