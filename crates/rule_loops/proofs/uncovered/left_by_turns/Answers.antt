use Rattle.std.proofs.Common.{◌≡◌, true, drop, sym, ◌∙◌, ap}
use Rattle.topology_terms.specs.Cells.{uncovered, outside}
use Rattle.plane_terms.specs.Carve.{carve_of}
use Rattle.rule_loops.specs.Open.{chosen, outsides}
use Rattle.rule_loops.proofs.Chosen.{turn_more, turn_same, turn_none}
use Rattle.rule_loops.proofs.uncovered.left_by_turns.Goals.{then-is_chosen+in_ok-outside+in_ok-left-2, else-is_chosen}
use Rattle.rule_core.proofs.Works.{judged_is}
use Rattle.rule_loops.proofs.uncovered.left_by_turns.Goals as goal

pub returns-then-len-eq0-clause-left : goal.returns-then-len-eq0-clause-left
returns-then-len-eq0-clause-left c = c.into_cells.ensures
    ∙ turn_none (outsides c.args.side c.args.except (drop c.loop-i.i c.args.view.now)) c.loop-i.left
    (uncovered c.args.cells (outsides c.args.side c.args.except (drop c.args.from c.args.view.now)))
    (sym c.len-in-loop-i.ensures ∙ c.if-len-eq0.true) c.loop-i.invariant.left

pub loop-i-preserved : goal.loop-i-preserved
loop-i-preserved c =
    let g = c.feature-other.result.now in
    let S = c.args.side in
    let o = c.args.except in
    let V = c.args.view.now in
    let i = c.loop-i.i in
    let old = c.loop-i.left in
    let inv = c.loop-i.invariant in
    let all = uncovered c.args.cells (outsides S o (drop c.args.from V)) in
    elim c.if-is_chosen.branch [
      | then-is_chosen+in_ok-outside+in_ok-left-2 w ↦
          let made = w.in_ok-left-2.left in
          let is : made ≡ carve_of old (outside g) =
          w.in_ok-left-2.ensures ∙ ap (carve_of old) (w.deref.ensures ∙ w.in_ok-outside.ensures.cells) in
          let one : chosen S o g ≡ true = sym c.is_chosen.ensures ∙ w.if-is_chosen.true in
          record {
            left = rw (w.left-is) (turn_more S o V i g old made all c.feature-other.ensures one is inv.left);
            uncounted = judged_is w.work-is ∙ (w.outside_of.ensures.uncounted ∙ inv.uncounted);
          }
      | else-is_chosen w ↦ record {
        left = turn_same S o V i g old c.if-is_chosen.left all c.feature-other.ensures (sym c.is_chosen.ensures ∙ w.if-is_chosen.false)
            w.left-is inv.left;
        uncounted = judged_is w.work-is ∙ inv.uncounted;
      }
    ]
