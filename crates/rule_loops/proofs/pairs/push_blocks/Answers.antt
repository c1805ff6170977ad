use Rattle.std.proofs.Common.{◌≡◌, false, List, ◌++◌, sym, ◌∙◌, arith}
use Rattle.std.specs.Prelude.{flat_map}
use Rattle.plane_terms.specs.Rectangle.{rects_meet}
use Rattle.plane_terms.specs.Segment.{Segment, box_of}
use Rattle.plane_terms.specs.Cell.{Cell}
use Rattle.rule_loops.specs.Blocks.{left_from, block_of}
use Rattle.rule_loops.proofs.Clear.{none_off}
use Rattle.rule_loops.proofs.Blocked.{none_near, block_more, block_same, rest_done, left_off}
use Rattle.rule_loops.proofs.pairs.push_blocks.Goals.{then-meets+in_ok-push_row, else-meets}
use Rattle.rule_loops.proofs.pairs.push_blocks.Goals as goal

pub loop-k-preserved : goal.loop-k-preserved
loop-k-preserved g c =
    let gives : Segment → Segment → List Cell = g.C.Crossing.crossing c.args.crossing.now in
    let s = c.args.segment.now in
    let ts = c.args.blocks.now in
    let k = c.loop-k.k in
    let done = c.loop-k.cells in
    let all = c.args.cells.now ++ flat_map (gives s) (left_from c.args.first ts) in
    elim c.if-meets.branch [
      | then-meets+in_ok-push_row w ↦
          block_more (gives s) k ts done c.if-meets.cells all
          (w.cells-is ∙ rw (w.block.ensures) at w.in_ok-push_row.ensures) c.loop-k.invariant
      | else-meets w ↦
          let r = c.frame.result in
          let far : rects_meet (box_of s) r ≡ false = rw (c.env-own.ensures.value) at (sym c.meets.ensures.value ∙ w.if-meets.false) in
          let none = none_near gives (g.met.C.Crossing.apart c.args.crossing.now) s r (block_of k ts) c.env-own.ensures.valid.proper
          c.frame.ensures far in
          block_same (gives s) k ts done c.if-meets.cells all none w.cells-is c.loop-k.invariant
    ]

pub returns : goal.returns
returns g c =
    let gives : Segment → Segment → List Cell = g.C.Crossing.crossing c.args.crossing.now in
    let s = c.args.segment.now in
    let ts = c.args.blocks.now in
    let off = left_off s c.args.end c.count_before-k-end.result c.loop-k.k ts (omega arith) c.count_before-k-end.ensures.enough c.requires in
    rest_done (gives s) (left_from c.loop-k.k ts) c.loop-k.cells (c.args.cells.now ++ flat_map (gives s) (left_from c.args.first ts))
    (none_off gives (g.met.C.Crossing.apart c.args.crossing.now) s (left_from c.loop-k.k ts) c.env-own.ensures.valid.proper off) c.loop-k.invariant
