use Rattle.std.proofs.Common.{◌≡◌, ◌∙◌, ◌++◌, ◌<◌, List, arith, sym, subst, ap}
use Rattle.std.specs.Option.{option_to_list}
use Rattle.std.proofs.lemmas.List.{take_all}
use Rattle.plane_terms.specs.Lists.{Every}
use Rattle.topology_terms.specs.Feature.{Feature}
use Rattle.feature_store.specs.declared.slot.Slot.{Slot}
use Rattle.feature_store.specs.Slots.{feature_in, filled}
use Rattle.fix_tools.proofs.Slots.{all_below, filled_more}
use Rattle.fix_tools.proofs.ask.view_of.Goals as goal

pub push_seen-requires : goal.push_seen-requires
push_seen-requires c = λ f e.
    subst (λ (gs : List Feature). Every (λ (g : Feature). g.handle < f.handle) gs) (sym c.loop-slot.invariant)
    (all_below c.args.slots.now c.loop-slot.slot-index c.slot-item.result f c.loop-slot-test.true c.slot-item.is c.requires e)

pub loop-slot-preserved : goal.loop-slot-preserved
loop-slot-preserved c =
    c.in_ok-push_seen.ensures
    ∙ ap (λ (gs : List Feature). gs ++ option_to_list (feature_in c.slot-item.result)) c.loop-slot.invariant
    ∙ sym (filled_more c.args.slots.now c.loop-slot.slot-index c.slot-item.result c.loop-slot-test.true c.slot-item.is)

pub returns : goal.returns
returns c =
    subst (λ (xs : List Slot). c.loop-slot.view ≡ filled xs) (take_all c.loop-slot.slot-index c.args.slots.now (omega arith))
    c.loop-slot.invariant
