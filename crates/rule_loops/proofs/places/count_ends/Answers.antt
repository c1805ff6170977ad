use Rattle.std.proofs.Common.{◌+◌, true, false, sym, ◌∙◌, ap, arith}
use Rattle.plane_terms.specs.Point.{same_place}
use Rattle.plane_terms.specs.Shape.{ends_of}
use Rattle.rule_loops.proofs.Spots.{many_more}
use Rattle.rule_loops.proofs.places.count_ends.Goals.{then-is_same, else-is_same}
use Rattle.rule_loops.proofs.places.count_ends.Goals as goal

pub loop-i-preserved : goal.loop-i-preserved
loop-i-preserved c =
    let es = ends_of c.args.line.now in
    let q = c.args.place in
    let i = c.loop-i.i in
    elim c.if-is_same.branch [
      | then-is_same w ↦
          let m = many_more (same_place q) es i c.end.result true c.end.ensures (sym c.is_same.ensures ∙ w.if-is_same.true) in
          record {
            counted = w.count-is ∙ (ap (λ n. n + 1) c.loop-i.invariant.counted ∙ sym m);
            few = omega (arith, w.count-is, c.loop-i.invariant.few);
          }
      | else-is_same w ↦
          let m = many_more (same_place q) es i c.end.result false c.end.ensures (sym c.is_same.ensures ∙ w.if-is_same.false) in
          record {
            counted = omega (arith, w.count-is, c.loop-i.invariant.counted, m);
            few = omega (arith, w.count-is, c.loop-i.invariant.few);
          }
    ]
