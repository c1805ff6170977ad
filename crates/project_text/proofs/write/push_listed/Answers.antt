use Rattle.std.proofs.Common.{◌++◌, ◌∙◌, length, refl, ap}
use Rattle.std.proofs.lemmas.List.{take_all}
use Rattle.std.proofs.lemmas.Option.{slice_get_read}
use Rattle.std.specs.Prelude.{flat_map}
use Rattle.std.specs.Option.{option_to_list}
use Rattle.feature_store.specs.declared.slot.Slot.{Slot}
use Rattle.feature_store.specs.Slots.{feature_in}
use Rattle.feature_store.proofs.Filling.{flat_map_filled}
use Rattle.project_text.specs.Pushed.{feature_text}
use Rattle.text_out.proofs.Pushing.{said_more}
use Rattle.project_text.proofs.write.push_listed.Goals as goal

pub loop-slot-preserved : goal.loop-slot-preserved
loop-slot-preserved c = said_more (λ (s : Slot). flat_map (feature_text c.args.store.now.classes) (option_to_list (feature_in s)))
    c.args.slots.now c.loop-slot.slot-index c.slot-item.result c.args.out.now.items c.loop-slot.out.items c.push_slot.new.out.items
    (slice_get_read c.args.slots.now (length c.args.slots.now) c.loop-slot.slot-index c.slot-item.result refl c.loop-slot-test.true
    c.slot-item.is) c.loop-slot.invariant c.in_ok-push_slot.ensures

pub returns : goal.returns
returns c = (rw (take_all c.loop-slot.slot-index c.args.slots.now c.loop-slot-test.false) at c.loop-slot.invariant)
    ∙ ap (λ t. c.args.out.now.items ++ t) (flat_map_filled (feature_text c.args.store.now.classes) c.args.slots.now)
