use Rattle.std.proofs.Common.{ap, arith}
use Rattle.std.specs.List.{list_all}
use Rattle.std.proofs.lemmas.Bool.{OnTrue_at}
use Rattle.plane_terms.specs.Segment.{Segment}
use Rattle.rule_loops.specs.Stacked.{stands, are_ordered}
use Rattle.rule_loops.proofs.Blocked.{left_all}
use Rattle.rule_loops.proofs.Ordered.{all_more, all_end}
use Rattle.rule_loops.proofs.stacked.are_all_ordered.Goals as goal

pub loop-i-init : goal.loop-i-init
loop-i-init c = ap (λ us. are_ordered c.args.order us c.args.other.now) (left_all c.args.one.now)

pub loop-i-preserved : goal.loop-i-preserved
loop-i-preserved c = all_more (λ (s : Segment). list_all (stands c.args.order s) c.args.other.now) c.loop-i.i
    c.args.one.now _ (OnTrue_at c.if-not-is_ordered_to_all.false c.is_ordered_to_all.ensures) c.loop-i.invariant

pub returns : goal.returns
returns c = all_end (λ (s : Segment). list_all (stands c.args.order s) c.args.other.now) c.loop-i.i
    c.args.one.now _ (omega (arith, c.count-i-end.ensures)) c.loop-i.invariant
