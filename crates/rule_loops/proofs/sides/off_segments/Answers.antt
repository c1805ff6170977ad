use Rattle.std.proofs.Common.{◌≡◌, sym, ◌∙◌, ap, refl}
use Rattle.plane_terms.specs.Carve.{carve_of}
use Rattle.topology_terms.specs.Cells.{box_meets}
use Rattle.rule_loops.proofs.More.{off_more, off_same, off_none}
use Rattle.rule_loops.proofs.sides.off_segments.Goals.{then-meets+in_ok-out_of_seg+in_ok-left, else-meets}
use Rattle.rule_loops.proofs.sides.off_segments.Goals as goal

pub returns-then-len-eq0 : goal.returns-then-len-eq0
returns-then-len-eq0 c = off_none c.args.segment.now c.args.others.now c.loop-other.other-index c.args.cells c.loop-other.left
    c.loop-other.invariant (sym c.len.ensures ∙ c.if-len-eq0.true)

pub loop-other-preserved : goal.loop-other-preserved
loop-other-preserved c =
    let s = c.args.segment.now in
    let t = c.other-item.result in
    let ts = c.args.others.now in
    let i = c.loop-other.other-index in
    let meets : c.meets.result ≡ box_meets s t = rw (c.meets.ensures.value, c.env.ensures.value, c.env-in-loop-other.ensures.value) refl in
    elim c.if-meets.branch [
      | then-meets+in_ok-out_of_seg+in_ok-left w ↦
          w.left-is ∙ (w.in_ok-left.ensures.value
          ∙ (ap (carve_of c.loop-other.left) w.in_ok-out_of_seg.ensures.value
          ∙ off_more s ts i t c.args.cells c.loop-other.left c.loop-other-test.true c.other-item.is
          (sym meets ∙ w.if-meets.true) c.loop-other.invariant))
      | else-meets w ↦ w.left-is ∙ off_same s ts i t c.args.cells c.loop-other.left c.loop-other-test.true c.other-item.is
          (sym meets ∙ w.if-meets.false) c.loop-other.invariant
    ]
