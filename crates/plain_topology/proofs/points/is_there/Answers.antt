use Rattle.plain_topology.specs.Plain.{features_of}
use Rattle.plain_topology.proofs.PointFacts.{there}
use Rattle.plain_topology.proofs.points.is_there.Goals as goal

pub returns-then-point-class : goal.returns-then-point-class
returns-then-point-class c =
    λ p i. there (features_of c.args.points.now) c.args.class c.args.handle p c.args.place c.in-Some.point c.is_same_place.result
    c.in-Some.ensures c.if-point-class.true i c.is_same_place.ensures
