use Rattle.std.proofs.Common.{◌≡◌, ◌++◌, List, arith, sym, subst, append-nil}
use Rattle.std.proofs.lemmas.List.{take_all}
use Rattle.plane_terms.specs.Lists.{Every}
use Rattle.plane_terms.specs.ShapeFaults.{IsFlawless}
use Rattle.feature_store.specs.declared.slot.Slot.{Slot}
use Rattle.feature_store.specs.Slots.{filled}
use Rattle.fix_terms.specs.Plans.{shapes_of}
use Rattle.fix_terms.specs.Move.{moves}
use Rattle.fix_tools.proofs.MovePlans.{edits_more, flawless_more, stop_slot}
use Rattle.fix_tools.proofs.moves.push_slots.Goals as goal

pub loop-slot-init : goal.loop-slot-init
loop-slot-init c = record { edits = sym (append-nil c.args.edits.now.items); flawless = tt }

pub returns-in-Err-clause-refused : goal.returns-in-Err-clause-refused
returns-in-Err-clause-refused c =
    stop_slot c.args.from c.args.to c.args.slots.now c.loop-slot.slot-index c.slot-item.result c.in-Err.fault c.loop-slot-test.true
    c.slot-item.is c.loop-slot.invariant.flawless c.in-Err.ensures.refused

pub loop-slot-preserved : goal.loop-slot-preserved
loop-slot-preserved c = record {
  edits = edits_more c.args.from c.args.to c.args.slots.now c.loop-slot.slot-index c.slot-item.result c.args.edits.now.items
      c.loop-slot.edits.items c.push_slot.new.edits.items c.loop-slot-test.true c.slot-item.is c.loop-slot.invariant.edits
      c.in_default.ensures.ok;
  flawless = flawless_more c.args.from c.args.to c.args.slots.now c.loop-slot.slot-index c.slot-item.result c.loop-slot-test.true
      c.slot-item.is c.loop-slot.invariant.flawless c.in_default.ensures.flawless;
}

pub returns-clause-ok : goal.returns-clause-ok
returns-clause-ok c =
    subst (λ (xs : List Slot). c.loop-slot.edits.items ≡ c.args.edits.now.items ++ moves c.args.from c.args.to (filled xs))
    (take_all c.loop-slot.slot-index c.args.slots.now (omega arith)) c.loop-slot.invariant.edits

pub returns-clause-flawless : goal.returns-clause-flawless
returns-clause-flawless c =
    subst (λ (xs : List Slot). Every IsFlawless (shapes_of (moves c.args.from c.args.to (filled xs))))
    (take_all c.loop-slot.slot-index c.args.slots.now (omega arith)) c.loop-slot.invariant.flawless
