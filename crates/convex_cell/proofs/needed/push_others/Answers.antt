use Rattle.std.proofs.Common.{arith}
use Rattle.std.proofs.lemmas.List.{take_all}
use Rattle.plane_terms.specs.HalfPlane.{Holds}
use Rattle.convex_cell.proofs.Loops.{all_step, all_end}
use Rattle.convex_cell.proofs.Pieces.{begins_more}
use Rattle.convex_cell.proofs.needed.push_others.Goals as goal

pub push_other-requires-clause-framed : goal.push_other-requires-clause-framed
push_other-requires-clause-framed c = λ p a. c.requires.framed p ((c.loop-half.invariant.points p).0 a).0

pub loop-half-preserved : goal.loop-half-preserved
loop-half-preserved c = record {
  points = λ p. all_step (λ h. Holds h p) c.args.halves.now c.loop-half.half-index c.half-item.result _ _ _ c.loop-half-test.true
      c.half-item.is (c.loop-half.invariant.points p) (c.in_ok-push_other.ensures.points p);
  begins = begins_more c.args.needed.now.items c.loop-half.needed.items c.push_other.new.needed.items c.loop-half.invariant.begins
      c.push_other.ensures.begins;
}

pub returns-clause-points : goal.returns-clause-points
returns-clause-points c = λ p. all_end (λ h. Holds h p) c.args.halves.now c.loop-half.half-index _ _ (take_all _ _ (omega arith))
    (c.loop-half.invariant.points p)
