use Rattle.std.proofs.Common.{Bool, cond, sym, ◌∙◌, ap, arith}
use Rattle.std.specs.Prelude.{not}
use Rattle.plane_terms.specs.Polygon.{counts}
use Rattle.plane_terms.specs.Segment.{Segment}
use Rattle.plane_terms.specs.Point.{point_at}
use Rattle.rule_loops.proofs.Below.{odd_first, odd_later, odd_end}
use Rattle.rule_loops.proofs.blocks_at.are_odd_below.Goals.{then-are_odd, else-are_odd}
use Rattle.rule_loops.proofs.blocks_at.are_odd_below.Goals as goal

pub loop-k-init : goal.loop-k-init
loop-k-init c = odd_first (λ (s : Segment). counts s (point_at c.args.place)) c.args.blocks.now

pub loop-k-preserved : goal.loop-k-preserved
loop-k-preserved c =
    let ts = c.args.blocks.now in
    let odd = c.loop-k.odd in
    elim c.if-are_odd.branch [
      | then-are_odd w ↦ odd_later (λ (s : Segment). counts s (point_at c.args.place)) ts c.loop-k.k odd c.if-are_odd.odd
          (w.odd-is ∙ ap (λ (b : Bool). cond b (not odd) odd) (sym (sym c.are_odd.ensures ∙ w.if-are_odd.true))) c.loop-k.invariant
      | else-are_odd w ↦ odd_later (λ (s : Segment). counts s (point_at c.args.place)) ts c.loop-k.k odd c.if-are_odd.odd
          (w.odd-is ∙ ap (λ (b : Bool). cond b (not odd) odd) (sym (sym c.are_odd.ensures ∙ w.if-are_odd.false))) c.loop-k.invariant
    ]

pub returns : goal.returns
returns c = odd_end (λ (s : Segment). counts s (point_at c.args.place)) c.args.blocks.now c.loop-k.k c.loop-k.odd
    (omega (arith, c.count-k-end.ensures)) c.loop-k.invariant
