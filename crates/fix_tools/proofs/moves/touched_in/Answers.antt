use Rattle.std.proofs.Common.{◌≡◌, ℕ, ◌<◌, List, map, take, arith, sym, subst, All}
use Rattle.std.proofs.lemmas.List.{take_all}
use Rattle.topology_terms.specs.Feature.{Feature}
use Rattle.feature_store.specs.declared.slot.Slot.{Slot}
use Rattle.feature_store.specs.Slots.{filled}
use Rattle.fix_terms.specs.Move.{touching}
use Rattle.fix_tools.proofs.Slots.{all_below, handles_below}
use Rattle.fix_tools.proofs.MovePlans.{touched_more}
use Rattle.fix_tools.proofs.moves.touched_in.Goals as goal

pub push_touched-requires : goal.push_touched-requires
push_touched-requires c = λ f e.
    subst (λ (hs : List ℕ). All (λ h. h < f.handle) hs) (sym c.loop-slot.invariant)
    (handles_below c.args.place (filled (take c.loop-slot.slot-index c.args.slots.now)) f.handle
    (all_below c.args.slots.now c.loop-slot.slot-index c.slot-item.result f c.loop-slot-test.true c.slot-item.is c.requires e))

pub loop-slot-preserved : goal.loop-slot-preserved
loop-slot-preserved c =
    touched_more c.args.place c.args.slots.now c.loop-slot.slot-index c.slot-item.result c.loop-slot.handles c.push_touched.new.handles
    c.loop-slot-test.true c.slot-item.is c.loop-slot.invariant c.in_ok-push_touched.ensures

pub returns : goal.returns
returns c =
    subst (λ (xs : List Slot). c.loop-slot.handles ≡ map {A = Feature} (λ f. f.handle) (touching c.args.place (filled xs)))
    (take_all c.loop-slot.slot-index c.args.slots.now (omega arith)) c.loop-slot.invariant
