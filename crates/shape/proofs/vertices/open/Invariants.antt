use Rattle.std.proofs.Common.{◌≡◌, vec_len}
use Rattle.plane_terms.specs.Shape.{opened}
use Rattle.shape.proofs.vertices.open.Given as goal

abbrev pub invariant-loop-ring : goal.invariant-loop-ring
invariant-loop-ring l = opened l.ring.items ≡ opened l.initial.ring.items

abbrev pub decreases-loop-ring : goal.decreases-loop-ring
decreases-loop-ring l = vec_len l.ring
