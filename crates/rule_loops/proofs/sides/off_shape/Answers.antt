use Rattle.std.proofs.Common.{◌≡◌, false, sym, ◌∙◌, ap, arith}
use Rattle.plane_terms.specs.Rectangle.{rects_meet}
use Rattle.plane_terms.specs.Segment.{box_of}
use Rattle.topology_terms.specs.Cells.{uncovered, out_of_segments}
use Rattle.rule_loops.proofs.Blocked.{left_all}
use Rattle.rule_loops.proofs.More.{off_block, off_far, off_blocks}
use Rattle.rule_loops.proofs.sides.off_shape.Goals.{then-meets+in_ok-left, else-meets}
use Rattle.rule_loops.proofs.sides.off_shape.Goals as goal

pub loop-k-init : goal.loop-k-init
loop-k-init c = ap (λ ts. uncovered c.args.cells (out_of_segments c.args.segment.now ts)) (left_all c.args.blocks.now)

pub loop-k-preserved : goal.loop-k-preserved
loop-k-preserved c =
    let s = c.args.segment.now in
    let ts = c.args.blocks.now in
    let k = c.loop-k.k in
    let all = uncovered c.args.cells (out_of_segments s ts) in
    elim c.if-meets.branch [
      | then-meets+in_ok-left w ↦ off_block s k ts c.loop-k.left c.if-meets.left all
          (w.left-is ∙ (w.in_ok-left.ensures ∙ ap (λ us. uncovered c.loop-k.left (out_of_segments s us)) w.block.ensures)) c.loop-k.invariant
      | else-meets w ↦
          let far : rects_meet (box_of s) c.frame.result ≡ false =
          rw (c.env-own.ensures.value) at (sym c.meets.ensures.value ∙ w.if-meets.false) in
          off_far s k ts c.frame.result c.loop-k.left c.if-meets.left all c.frame.ensures far w.left-is c.loop-k.invariant
    ]

pub returns : goal.returns
returns c = off_blocks c.args.segment.now c.loop-k.k c.args.blocks.now c.loop-k.left
    (uncovered c.args.cells (out_of_segments c.args.segment.now c.args.blocks.now))
    (omega (arith, c.count-k-end.ensures)) c.loop-k.invariant
