use Rattle.std.proofs.Common.{refl, sym, ◌∙◌}
use Rattle.rule_loops.proofs.Chosen.{held_more, held_same}
use Rattle.rule_loops.proofs.nearby.nearby_of.Goals.{then-is_chosen+in_ok-near+else-count-room+else-len-ge-MOST_POLYGONS+in_ok-push, else-is_chosen}
use Rattle.rule_core.proofs.Works.{judged_is}
use Rattle.rule_loops.proofs.nearby.nearby_of.Goals as goal

pub loop-i-preserved : goal.loop-i-preserved
loop-i-preserved c =
    let g = c.feature-other.result.now in
    let inv = c.loop-i.invariant in
    elim c.if-is_chosen.branch [
      | then-is_chosen+in_ok-near+else-count-room+else-len-ge-MOST_POLYGONS+in_ok-push w ↦ record {
        all = rw (w.held-is) (held_more c.args.side c.args.except c.args.view.now c.loop-i.i g _ c.loop-i.held.items _ _ c.feature-other.ensures
            (sym c.is_chosen.ensures ∙ w.if-is_chosen.true) w.in_ok-near.ensures.outside w.in_ok-push.ensures.items inv.all);
        uncounted = judged_is w.work-is ∙ (w.in_ok-near.ensures.uncounted ∙ inv.uncounted);
      }
      | else-is_chosen w ↦ record {
        all = rw (w.held-is) (held_same c.args.side c.args.except c.args.view.now c.loop-i.i g c.loop-i.held.items _ _ c.feature-other.ensures
            (sym c.is_chosen.ensures ∙ w.if-is_chosen.false) refl inv.all);
        uncounted = judged_is w.work-is ∙ inv.uncounted;
      }
    ]
