use Rattle.std.proofs.Common.{◌≡◌, false, List, ◌++◌, sym, ◌∙◌, ap, arith}
use Rattle.std.specs.Prelude.{flat_map}
use Rattle.plane_terms.specs.Rectangle.{rects_meet}
use Rattle.plane_terms.specs.Segment.{Segment}
use Rattle.plane_terms.specs.Cell.{Cell}
use Rattle.topology_terms.specs.Cells as terms
use Rattle.rule_loops.specs.Blocks.{left_from, block_of}
use Rattle.rule_loops.proofs.Blocked.{left_all, none_far, block_more, block_same, blocks_done}
use Rattle.rule_loops.proofs.pairs.each_pair.Goals.{then-meets+in_ok-push_rows, else-meets}
use Rattle.rule_loops.proofs.pairs.each_pair.Goals as goal

pub loop-k-init : goal.loop-k-init
loop-k-init g c =
    let gives : Segment → Segment → List Cell = g.C.Crossing.crossing c.args.crossing.now in
    let us = c.of-others.result in
    ap (λ cs. cs ++ terms.each_pair gives (left_from 0 c.of-blocks.result) us) c.new-cells.ensures
    ∙ ap (λ ts. terms.each_pair gives ts us) (left_all c.of-blocks.result)

pub loop-k-preserved : goal.loop-k-preserved
loop-k-preserved g c =
    let gives : Segment → Segment → List Cell = g.C.Crossing.crossing c.args.crossing.now in
    let us = c.of-others.result in
    let row : Segment → List Cell = λ s. flat_map (gives s) us in
    let ts = c.of-blocks.result in
    let k = c.loop-k.k in
    let done = c.loop-k.cells in
    let all = flat_map row ts in
    elim c.if-meets.branch [
      | then-meets+in_ok-push_rows w ↦
          block_more row k ts done c.if-meets.cells all (w.cells-is ∙ rw (w.block.ensures) at w.in_ok-push_rows.ensures) c.loop-k.invariant
      | else-meets w ↦
          let far : rects_meet c.frame.result c.whole-whole.result ≡ false = sym c.meets.ensures.value ∙ w.if-meets.false in
          let none = none_far gives (g.met.C.Crossing.apart c.args.crossing.now) c.frame.result c.whole-whole.result (block_of k ts) us
          c.frame.ensures c.whole-whole.ensures far in
          block_same row k ts done c.if-meets.cells all none w.cells-is c.loop-k.invariant
    ]

pub returns : goal.returns
returns g c =
    let row : Segment → List Cell = λ s. flat_map (g.C.Crossing.crossing c.args.crossing.now s) c.of-others.result in
    let ts = c.of-blocks.result in
    rw (← c.of-blocks.ensures, ← c.of-others.ensures)
    (blocks_done row c.loop-k.k ts c.loop-k.cells (flat_map row ts) (omega (arith, c.count-k-end.ensures)) c.loop-k.invariant)
