use Rattle.std.proofs.Common.{◌+◌, take, sym, ◌∙◌, ap}
use Rattle.plane_terms.specs.Lists.{how_many}
use Rattle.plane_terms.specs.Point.{same_place}
use Rattle.plane_terms.specs.Shape.{Shape, ends_of}
use Rattle.topology_terms.specs.Tests as terms
use Rattle.topology_terms.specs.Together.{of_side}
use Rattle.rule_loops.specs.Views.{up_to_three}
use Rattle.rule_loops.proofs.Seen.{ends_next, ends_same, ends_fewer, three_there}
use Rattle.rule_loops.proofs.counts.ends_at.Goals.{then-is_round+else-count-gt2, else-is_round}
use Rattle.rule_loops.proofs.counts.ends_at.Goals as goal

pub loop-i-preserved : goal.loop-i-preserved
loop-i-preserved c =
    let q = c.args.place in
    let V = c.args.view.now in
    let g = c.feature-other.result.now in
    elim c.if-is_round.branch [
      | then-is_round+else-count-gt2 w ↦
          w.count-is ∙ ends_next q c.args.side V c.loop-i.i g c.loop-i.count w.up_to_three-more.result w.up_to_three-count.result
          c.feature-other.ensures (sym c.is_round.ensures ∙ w.if-is_round.true)
          (w.up_to_three-more.ensures ∙ ap up_to_three (w.count_ends.ensures ∙ ap (λ (s : Shape). how_many (same_place q) (ends_of s)) w.shape.ensures))
          w.up_to_three-count.ensures c.loop-i.invariant
      | else-is_round w ↦ w.count-is ∙ ends_same q c.args.side V c.loop-i.i g c.loop-i.count c.feature-other.ensures
          (sym c.is_round.ensures ∙ w.if-is_round.false) c.loop-i.invariant
    ]

pub returns-then-count-gt2 : goal.returns-then-count-gt2
returns-then-count-gt2 c =
    let q = c.args.place in
    let V = c.args.view.now in
    let next = ends_next q c.args.side V c.loop-i.i c.feature-other.result.now c.loop-i.count c.up_to_three-more.result
    c.up_to_three-count.result c.feature-other.ensures (sym c.is_round.ensures ∙ c.if-is_round.true)
    (c.up_to_three-more.ensures ∙ ap up_to_three (c.count_ends.ensures ∙ ap (λ (s : Shape). how_many (same_place q) (ends_of s)) c.shape.ensures))
    c.up_to_three-count.ensures c.loop-i.invariant in
    three_there c.up_to_three-count.result (terms.ends_at (of_side c.args.side (take (c.loop-i.i + 1) V)) q)
    (terms.ends_at (of_side c.args.side V) q) next c.if-count-gt2.true (ends_fewer q c.args.side V (c.loop-i.i + 1))
