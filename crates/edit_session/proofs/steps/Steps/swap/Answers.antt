use Rattle.std.proofs.Common.{◌<◌, ◌∙◌, sym, subst, arith, length, get_or, List, Option}
use Rattle.std.specs.Prelude.{OnOk}
use Rattle.topology_terms.specs.Feature.{Feature}
use Rattle.session_terms.specs.Kept.{KeptStep}
use Rattle.edit_session.specs.Moves.{MayEach}
use Rattle.edit_session.specs.StepLists.{StepList, IsSwappedAt, steps_of, kept_in}
use Rattle.edit_session.proofs.StepLists.{swapped_at}
use Rattle.edit_session.proofs.KeptSteps.{step_count, steps_at, each_at, swap_others, swap_set}
use Rattle.edit_session.proofs.steps.Steps.swap.Goals as goal

pub at-handle-requires : goal.at-handle-requires
at-handle-requires g c =
    let hs = c.self.inside.handles.items in
    let within : c.args.index < length (steps_of (kept_in c.self.inside.kept) hs) =
    subst (λ (v : StepList). c.args.index < length v.items) (sym c.self.view_is) c.requires.within in
    omega (arith, within, step_count (kept_in c.self.inside.kept) hs)

pub returns-in_err-make_room-clause-few : goal.returns-in_err-make_room-clause-few
returns-in_err-make_room-clause-few g c = omega (
  arith,
  step_count (kept_in c.make_room.new.kept) c.self.inside.handles.items,
  c.at-handle.ensures.few,
)

pub swap-swapped-requires : goal.swap-swapped-requires
swap-swapped-requires g c =
    let hs = c.self.inside.handles.items in
    let at = kept_in c.self.inside.kept in
    let may = g.G.Ground.may_stand c.args.ground.now in
    let within : c.args.index < length (steps_of at hs) =
    subst (λ (v : StepList). c.args.index < length v.items) (sym c.self.view_is) c.requires.within in
    let all : MayEach may (steps_of at hs) = subst (λ (v : StepList). MayEach may v.items) (sym c.self.view_is) c.requires.may in
    let here = each_at may at hs c.args.index 0 (omega (arith, within, step_count at hs)) all in
    record {
      may = subst (λ h. may h c.take-kept.result) (sym c.at-handle.ensures.value)
          (subst (may (get_or hs c.args.index 0)) (sym (c.take-kept.ensures.value ∙ c.make_room.ensures.same c.args.index)) here);
    }

pub invariant_of-self-2 : goal.invariant_of-self-2
invariant_of-self-2 g c =
    let hs = c.self.inside.handles.items in
    let at = kept_in c.self.inside.kept in
    let within : c.args.index < length (steps_of at hs) =
    subst (λ (v : StepList). c.args.index < length v.items) (sym c.self.view_is) c.requires.within in
    let inside : c.args.index < length hs = omega (arith, within, step_count at hs) in
    let others = swap_others at (kept_in c.make_room.new.kept) (kept_in c.take-kept.new.kept) (kept_in c.put.new.kept) c.args.index
    c.swap-swapped.new.kept c.make_room.ensures.same c.take-kept.ensures.taken c.put.ensures.put in (
      λ i l. others i (λ e. absurd (omega (arith, e, l, inside))) ∙ c.self.invariant.0 i l,
      c.self.invariant.1,
      omega (arith, c.self.invariant.3, c.in_ok-make_room.ensures.room, c.take-kept.ensures.room, c.put.ensures.room),
      c.self.invariant.3,
    )

pub returns-clause-few : goal.returns-clause-few
returns-clause-few g c = omega (
  arith,
  step_count (kept_in c.put.new.kept) c.self.inside.handles.items,
  c.at-handle.ensures.few,
)

pub returns-clause-done : goal.returns-clause-done
returns-clause-done g c =
    let hs = c.self.inside.handles.items in
    let at = kept_in c.self.inside.kept in
    let h = get_or hs c.args.index 0 in
    let x = c.swap-swapped.new.kept in
    let swapped = g.G.Ground.swapped in
    let within : c.args.index < length (steps_of at hs) =
    subst (λ (v : StepList). c.args.index < length v.items) (sym c.self.view_is) c.requires.within in
    let inside : c.args.index < length hs = omega (arith, within, step_count at hs) in
    let set = swap_set at (kept_in c.make_room.new.kept) (kept_in c.take-kept.new.kept) (kept_in c.put.new.kept) hs c.args.index 0 x inside
    c.make_room.ensures.same c.take-kept.ensures.taken c.put.ensures.put in
    let s : KeptStep = record { handle = h; kept = at c.args.index } in
    let done = subst (λ d. OnOk c.swap-swapped.result (swapped d x (at c.args.index) c.args.ground.now c.swap-swapped.new.self))
    c.at-handle.ensures.value (subst (λ (k : Option Feature). OnOk c.swap-swapped.result (swapped c.at-handle.result x k c.args.ground.now
    c.swap-swapped.new.self)) (c.take-kept.ensures.value ∙ c.make_room.ensures.same c.args.index) c.swap-swapped.ensures.done) in
    subst (λ (v : StepList). OnOk c.swap-swapped.result (IsSwappedAt swapped c.args.index v.items
    (steps_of (kept_in c.put.new.kept) hs) c.args.ground.now c.swap-swapped.new.self)) c.self.view_is
    (subst (λ (us : List KeptStep). OnOk c.swap-swapped.result (IsSwappedAt swapped c.args.index (steps_of at hs) us c.args.ground.now
    c.swap-swapped.new.self)) (sym set) (swapped_at swapped (steps_of at hs) c.args.index h (at c.args.index) x
    c.args.ground.now c.swap-swapped.new.self c.swap-swapped.result within (steps_at at hs c.args.index 0 s inside) done))
