use Rattle.std.proofs.Common.{◌≡◌, map, Some, None, true, sym, subst, ◌∙◌}
use Rattle.fix_terms.specs.Move.{touching}
use Rattle.topology_terms.specs.Feature.{Feature}
use Rattle.topology_terms.specs.Project.{Project}
use Rattle.line_terms.specs.Commands.{Move}
use Rattle.script_terms.specs.Refusal.{HeldBy, NothingToFix}
use Rattle.script_terms.specs.Refusing.{refusal_of}
use Rattle.script_terms.specs.State.{State, desk_of, is_open}
use Rattle.command_answers.specs.Worlds.{seen_desk}
use Rattle.command_answers.proofs.Fixing.{move_nothing, move_onto, move_empty, move_may, move_asked}
use Rattle.command_answers.proofs.world.World.move_refusal.Goals as goal
use Rattle.command_answers.proofs.world.World.move_refusal.Goals.{then-is_same_place-via-then-is_same_place, then-is_same_place-via-else-is_same_place+then-len-eq0}

pub returns-then-is_same_place : goal.returns-then-is_same_place
returns-then-is_same_place c =
    let begun = sym c.is_open.ensures ∙ c.if-not-is_open.false in
    subst (λ (z : State). refusal_of (desk_of z) (Move c.args.editor.now c.args.from c.args.to) ≡ Some NothingToFix) c.self.view_is (move_nothing (seen_desk c.self.inside.tree.current.project c.self.inside.sessions) c.args.editor.now c.args.from c.args.to
    (subst (λ (z : State). is_open (desk_of z) c.args.editor.now ≡ true) (sym c.self.view_is) begun)
    (elim c.then-is_same_place.branch [
      | then-is_same_place-via-then-is_same_place w ↦
          move_onto c.args.from c.args.to c.self.inside.tree.current.project.features (sym c.is_same_place.ensures ∙ w.if-is_same_place.true)
      | then-is_same_place-via-else-is_same_place+then-len-eq0 w ↦
          move_empty c.args.from c.args.to c.self.inside.tree.current.project.features c.in_ok-handles.handles (subst (λ (q : Project). c.in_ok-handles.handles ≡ map {A = Feature} (λ f. f.handle) (touching c.args.from q.features)) c.current.ensures c.in_ok-handles.ensures.touching)
          (sym w.len.ensures.value ∙ w.if-len-eq0.true)
    ]))

pub returns-in-Some : goal.returns-in-Some
returns-in-Some c =
    let begun = sym c.is_open.ensures ∙ c.if-not-is_open.false in
    let may = move_may c.args.from c.args.to c.self.inside.tree.current.project.features c.in_ok-handles.handles (subst (λ (q : Project). c.in_ok-handles.handles ≡ map {A = Feature} (λ f. f.handle) (touching c.args.from q.features)) c.current.ensures c.in_ok-handles.ensures.touching)
    (λ z. c.if-len-eq0.false (c.len.ensures.value ∙ z)) (sym c.is_same_place.ensures ∙ c.if-is_same_place.false) in
    subst (λ (z : State). refusal_of (desk_of z) (Move c.args.editor.now c.args.from c.args.to) ≡ Some (HeldBy c.in-Some.holder)) c.self.view_is (move_asked c.self.inside.tree.current.project c.self.inside.sessions c.args.editor.now c.items.result.now c.args.from
    c.args.to (Some (HeldBy c.in-Some.holder)) (subst (λ (z : State). is_open (desk_of z) c.args.editor.now ≡ true) (sym c.self.view_is) begun)
    may (c.items.ensures.value ∙ (subst (λ (q : Project). c.in_ok-handles.handles ≡ map {A = Feature} (λ f. f.handle) (touching c.args.from q.features)) c.current.ensures c.in_ok-handles.ensures.touching)) c.in-Some.ensures)

pub returns : goal.returns
returns c =
    let begun = sym c.is_open.ensures ∙ c.if-not-is_open.false in
    let may = move_may c.args.from c.args.to c.self.inside.tree.current.project.features c.in_ok-handles.handles (subst (λ (q : Project). c.in_ok-handles.handles ≡ map {A = Feature} (λ f. f.handle) (touching c.args.from q.features)) c.current.ensures c.in_ok-handles.ensures.touching)
    (λ z. c.if-len-eq0.false (c.len.ensures.value ∙ z)) (sym c.is_same_place.ensures ∙ c.if-is_same_place.false) in
    subst (λ (z : State). refusal_of (desk_of z) (Move c.args.editor.now c.args.from c.args.to) ≡ None) c.self.view_is (move_asked c.self.inside.tree.current.project c.self.inside.sessions c.args.editor.now c.items.result.now c.args.from
    c.args.to None (subst (λ (z : State). is_open (desk_of z) c.args.editor.now ≡ true) (sym c.self.view_is) begun)
    may (c.items.ensures.value ∙ (subst (λ (q : Project). c.in_ok-handles.handles ≡ map {A = Feature} (λ f. f.handle) (touching c.args.from q.features)) c.current.ensures c.in_ok-handles.ensures.touching)) c.in-None.ensures)
