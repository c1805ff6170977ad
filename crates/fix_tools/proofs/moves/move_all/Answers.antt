use Rattle.std.proofs.Common.{◌≡◌, ◌∙◌, List, arith, length, sym, ap, subst, false}
use Rattle.plane_terms.specs.Lists.{Every}
use Rattle.plane_terms.specs.Point.{same_place}
use Rattle.plane_terms.specs.ShapeFaults.{IsFlawless}
use Rattle.topology_terms.specs.Feature.{Feature}
use Rattle.feature_store.specs.Slots.{filled}
use Rattle.fix_terms.specs.Plans.{Edit, IsPossible}
use Rattle.fix_terms.specs.Plans.{IsAfter, shapes_of}
use Rattle.fix_terms.specs.Move.{moves}
use Rattle.fix_tools.specs.Move.{IsMoveFault}
use Rattle.fix_tools.proofs.Moving.{move_fixes}
use Rattle.fix_tools.proofs.Possible.{moves_possible, live_kinds}
use Rattle.fix_tools.proofs.Snapping.{found_at}
use Rattle.fix_tools.proofs.MovePlans.{plan_is, none_of, stop_fault, nothing_moves, something_moves, onto_itself}
use Rattle.fix_tools.proofs.moves.move_all.Goals as goal

pub returns-then-is_at-clause-refused : goal.returns-then-is_at-clause-refused
returns-then-is_at-clause-refused g c = onto_itself c.args.from c.args.to c.args.topology.now.features (sym c.is_at.ensures ∙ c.if-is_at.true)

pub returns-in-Err-clause-refused : goal.returns-in-Err-clause-refused
returns-in-Err-clause-refused g c =
    let all = c.slots.ensures ∙ c.features-features.ensures.value ∙ c.store.ensures.features in
    subst (λ (fs : List Feature). IsMoveFault c.args.from c.args.to fs c.in-Err.fault) all
    (stop_fault c.args.from c.args.to (filled c.slots.result.now) c.in-Err.fault (sym c.is_at.ensures ∙ c.if-is_at.false) c.in-Err.ensures.refused)

pub returns-then-len-eq0-clause-refused : goal.returns-then-len-eq0-clause-refused
returns-then-len-eq0-clause-refused g c =
    let F = c.args.topology.now.features in
    let es = c.push_slots.new.edits.items in
    let plan = plan_is c.args.from c.args.to (filled c.slots.result.now) F c.new-edits.result.items es c.new-edits.ensures.items c.in_default.ensures.ok
    (c.slots.ensures ∙ c.features-features.ensures.value ∙ c.store.ensures.features) in
    nothing_moves c.args.from c.args.to F (sym c.is_at.ensures ∙ c.if-is_at.false)
    (sym plan ∙ none_of es (omega (arith, c.if-len-eq0.true, c.len.ensures)))

pub returns-clause-plan : goal.returns-clause-plan
returns-clause-plan g c =
    let F = c.args.topology.now.features in
    let es = c.push_slots.new.edits.items in
    let all = c.slots.ensures ∙ c.features-features.ensures.value ∙ c.store.ensures.features in
    let plan : es ≡ moves c.args.from c.args.to F =
    plan_is c.args.from c.args.to (filled c.slots.result.now) F c.new-edits.result.items es c.new-edits.ensures.items c.in_default.ensures.ok all in record {
      may = something_moves c.args.from c.args.to F (sym c.is_at.ensures ∙ c.if-is_at.false)
          (λ e. let z = ap (λ (ds : List Edit). length ds) (plan ∙ e) in omega (arith, z, c.len.ensures, c.if-len-eq0.false));
      plan = plan;
      flawless = subst (λ (ds : List Edit). Every IsFlawless (shapes_of ds)) (sym plan)
          (subst (λ (fs : List Feature). Every IsFlawless (shapes_of (moves c.args.from c.args.to fs))) all c.in_default.ensures.flawless);
    }

pub returns-clause-possible : goal.returns-clause-possible
returns-clause-possible g c =
    let p = c.args.topology.now in
    let F = p.features in
    let plan : c.push_slots.new.edits.items ≡ moves c.args.from c.args.to F =
    plan_is c.args.from c.args.to (filled c.slots.result.now) F c.new-edits.result.items c.push_slots.new.edits.items c.new-edits.ensures.items
    c.in_default.ensures.ok (c.slots.ensures ∙ c.features-features.ensures.value ∙ c.store.ensures.features) in
    subst (λ (es : List Edit). IsPossible es p) (sym plan)
    (moves_possible c.args.from c.args.to F p (live_kinds p F (found_at F c.topology_law.ensures.store.ascending)))

pub returns-clause-fixed : goal.returns-clause-fixed
returns-clause-fixed g c = λ G a.
    let from = c.args.from in
    let to = c.args.to in
    let F = c.args.topology.now.features in
    let n = c.args.topology.now.next in
    let plan : c.push_slots.new.edits.items ≡ moves from to F =
    plan_is from to (filled c.slots.result.now) F c.new-edits.result.items c.push_slots.new.edits.items c.new-edits.ensures.items
    c.in_default.ensures.ok (c.slots.ensures ∙ c.features-features.ensures.value ∙ c.store.ensures.features) in
    let apart : same_place to from ≡ false = sym c.is_at.ensures ∙ c.if-is_at.false in
    move_fixes from to F n G c.topology_law.ensures.store.ascending apart (subst (λ (es : List Edit). IsAfter es F n G) plan a)
