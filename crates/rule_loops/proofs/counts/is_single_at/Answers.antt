use Rattle.std.proofs.Common.{◌+◌, take, sym, ◌∙◌}
use Rattle.topology_terms.specs.Tests as terms
use Rattle.topology_terms.specs.Together.{of_side}
use Rattle.rule_loops.proofs.Seen.{segments_next, segments_same, segments_fewer, not_single}
use Rattle.rule_loops.proofs.counts.is_single_at.Goals.{then-is_round+else-count-gt1, else-is_round}
use Rattle.rule_loops.proofs.counts.is_single_at.Goals as goal

pub loop-i-preserved : goal.loop-i-preserved
loop-i-preserved c =
    let q = c.args.place in
    let V = c.args.view.now in
    let g = c.feature-other.result.now in
    elim c.if-is_round.branch [
      | then-is_round+else-count-gt1 w ↦
          w.count-is ∙ segments_next q c.args.side V c.loop-i.i g c.loop-i.count w.with_segments-count.result c.feature-other.ensures
          w.with_segments-count.ensures c.loop-i.invariant
      | else-is_round w ↦
          w.count-is ∙ segments_same q c.args.side V c.loop-i.i g c.loop-i.count c.feature-other.ensures
          (sym c.is_round.ensures ∙ w.if-is_round.false) c.loop-i.invariant
    ]

pub returns-then-count-gt1 : goal.returns-then-count-gt1
returns-then-count-gt1 c =
    let V = c.args.view.now in
    let next = segments_next c.args.place c.args.side V c.loop-i.i c.feature-other.result.now c.loop-i.count
    c.with_segments-count.result c.feature-other.ensures c.with_segments-count.ensures c.loop-i.invariant in
    sym (not_single c.with_segments-count.result (terms.segments_at (of_side c.args.side (take (c.loop-i.i + 1) V)) c.args.place)
    (terms.segments_at (of_side c.args.side V) c.args.place) next c.if-count-gt1.true
    (segments_fewer c.args.place c.args.side V (c.loop-i.i + 1)))
