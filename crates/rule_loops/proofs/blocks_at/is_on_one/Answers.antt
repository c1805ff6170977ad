use Rattle.std.proofs.Common.{sym, ◌∙◌, ap, arith}
use Rattle.plane_terms.specs.Line.{holds_place}
use Rattle.plane_terms.specs.Segment.{Segment}
use Rattle.topology_terms.specs.Tests.{holds_at}
use Rattle.rule_loops.proofs.Blocked.{left_all}
use Rattle.rule_loops.proofs.Below.{any_more, any_here, any_end}
use Rattle.rule_loops.proofs.blocks_at.is_on_one.Goals as goal

pub loop-k-init : goal.loop-k-init
loop-k-init c = ap (λ ts. holds_at ts c.args.place) (left_all c.args.blocks.now)

pub returns-then-is_held : goal.returns-then-is_held
returns-then-is_held c = sym (any_here (λ (t : Segment). holds_place t c.args.place) c.args.blocks.now c.loop-k.k
    (sym c.is_held.ensures ∙ c.if-is_held.true) c.loop-k.invariant)

pub loop-k-preserved : goal.loop-k-preserved
loop-k-preserved c = any_more (λ (t : Segment). holds_place t c.args.place) c.args.blocks.now c.loop-k.k
    (sym c.is_held.ensures ∙ c.if-is_held.false) c.loop-k.invariant

pub returns : goal.returns
returns c = sym (any_end (λ (t : Segment). holds_place t c.args.place) c.args.blocks.now c.loop-k.k
    (omega (arith, c.count-k-end.ensures)) c.loop-k.invariant)
