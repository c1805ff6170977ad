use Rattle.std.proofs.Common.{◌≡◌, ℕ, List, Some, rules, sym, ap, subst}
use Rattle.line_terms.specs.Commands.{Sided}
use Rattle.topology_terms.specs.Lookups.{class_number}
use Rattle.topology_terms.specs.Project.{Project}
use Rattle.command_answers.proofs.Replying.{kept_by, add_replied, add_kept}
use Rattle.command_answers.proofs.Trees.{aside_same, project_after, room_after, settled_seen, sound_seen}
use Rattle.command_answers.proofs.world.World.answer_add.Goals as goal

pub returns-clause-answers : goal.returns-clause-answers
returns-clause-answers c =
    let found : class_number c.current.result.now c.own.inside.name ≡ Some c.in-Some.class =
    rw c.store.ensures.classes at (sym c.in-Some.ensures) in
    let there = subst (λ (q : Project). class_number q c.own.inside.name ≡ Some c.in-Some.class) c.current.ensures found in
    let is = subst (λ (n : List ℕ). class_number c.self.inside.tree.current.project n ≡ Some c.in-Some.class) (ap (λ (a : Sided). a.name) c.own.view_is) there in
    rw (← c.self.view_is) (add_replied c.self.inside.tree.current.project c.add_noted.new.tree.current.project c.self.inside.sessions c.add_noted.new.sessions
    c.args.editor.now c.args.own.now c.args.shape c.in-Some.class c.subtype_of-subtype.result c.add_noted.result c.reply_to_add.result
    c.subtype_of-subtype.ensures c.self.invariant
    (search rules) is c.add_noted.ensures.ok c.add_noted.ensures.noted
    c.add_noted.ensures.may c.add_noted.ensures.refused (project_after c.self.inside.tree c.add_noted.new.tree c.add_noted.result c.add_noted.ensures.err) c.add_noted.ensures.room c.reply_to_add.ensures.said)

pub returns-clause-err : goal.returns-clause-err
returns-clause-err c =
    rw (← c.self.view_is) (kept_by _ c.add_noted.result c.reply_to_add.result c.reply_to_add.ensures.spent
    (room_after c.self.inside.tree c.add_noted.new.tree c.args.editor.now c.self.inside.sessions c.add_noted.new.sessions
    c.add_noted.result c.add_noted.ensures.err c.add_noted.ensures.room))

pub invariant_of-self : goal.invariant_of-self
invariant_of-self c =
    add_kept c.self.inside.tree.current.project c.add_noted.new.tree.current.project c.self.inside.sessions c.add_noted.new.sessions c.args.editor.now c.args.shape
    c.in-Some.class c.subtype_of-subtype.result c.add_noted.result c.current_law.ensures.topology.store c.self.invariant c.add_noted.ensures.ok c.add_noted.ensures.noted
    (project_after c.self.inside.tree c.add_noted.new.tree c.add_noted.result c.add_noted.ensures.err) c.add_noted.ensures.room

pub returns-clause-sound : goal.returns-clause-sound
returns-clause-sound c = sound_seen c.self.inside.tree c.add_noted.new.tree.current.project c.self.inside.sessions c.args.self.now c.self.view_is
    c.add_noted.ensures.sound

pub returns-clause-settled : goal.returns-clause-settled
returns-clause-settled c = settled_seen c.self.inside.tree c.add_noted.new.tree.current.project c.self.inside.sessions c.args.self.now
    c.self.view_is
    c.add_noted.ensures.settled

pub returns-clause-aside : goal.returns-clause-aside
returns-clause-aside c = rw (← c.self.view_is) (aside_same c.self.inside.tree c.add_noted.new.tree c.add_noted.ensures.aside)
