use Rattle.std.proofs.Common.{◌+◌, take}
use Rattle.topology_terms.specs.Tests as terms
use Rattle.topology_terms.specs.Together.{of_side}
use Rattle.rule_loops.proofs.Seen.{segments_next, segments_fewer, three_there}
use Rattle.rule_loops.proofs.counts.segments_at.Goals as goal

pub loop-i-preserved : goal.loop-i-preserved
loop-i-preserved c = segments_next c.args.place c.args.side c.args.view.now c.loop-i.i c.feature.result.now c.loop-i.count
    c.with_segments-count.result c.feature.ensures c.with_segments-count.ensures c.loop-i.invariant

pub returns-then-count-gt2 : goal.returns-then-count-gt2
returns-then-count-gt2 c =
    let q = c.args.place in
    let V = c.args.view.now in
    let next = segments_next q c.args.side V c.loop-i.i c.feature.result.now c.loop-i.count c.with_segments-count.result c.feature.ensures
    c.with_segments-count.ensures c.loop-i.invariant in
    three_there c.with_segments-count.result (terms.segments_at (of_side c.args.side (take (c.loop-i.i + 1) V)) q)
    (terms.segments_at (of_side c.args.side V) q) next c.if-count-gt2.true (segments_fewer q c.args.side V (c.loop-i.i + 1))
