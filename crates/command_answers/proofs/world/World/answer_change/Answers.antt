use Rattle.std.proofs.Common.{◌≡◌, None, sym, subst}
use Rattle.line_terms.specs.Commands.{Delete}
use Rattle.script_terms.specs.Refusing.{refusal_of}
use Rattle.script_terms.specs.State.{State, desk_of}
use Rattle.topology_terms.specs.Changes.{reshaped}
use Rattle.topology_terms.specs.Feature.{feature_at}
use Rattle.command_answers.proofs.Replying.{kept_by, change_replied, set_kept}
use Rattle.command_answers.proofs.Trees.{aside_same, project_after, room_after, settled_seen, sound_seen}
use Rattle.command_answers.proofs.world.World.answer_change.Goals as goal

pub returns-clause-answers : goal.returns-clause-answers
returns-clause-answers c =
    rw (← c.self.view_is) (change_replied c.self.inside.tree.current.project c.change_noted.new.tree.current.project c.self.inside.sessions
    c.change_noted.new.sessions c.args.editor.now c.args.handle c.args.shape c.change_noted.result c.reply_to_change.result
    c.self.invariant c.current_law.ensures.ordered (subst (λ (z : State). refusal_of (desk_of z) (Delete c.args.editor.now c.args.handle) ≡ None)
    (sym c.self.view_is) c.in_default.ensures) c.change_noted.ensures.ok c.change_noted.ensures.noted c.change_noted.ensures.may
    c.change_noted.ensures.refused (project_after c.self.inside.tree c.change_noted.new.tree c.change_noted.result c.change_noted.ensures.err) c.change_noted.ensures.room c.reply_to_change.ensures.said)

pub returns-clause-err : goal.returns-clause-err
returns-clause-err c =
    rw (← c.self.view_is) (kept_by _ c.change_noted.result c.reply_to_change.result c.reply_to_change.ensures.spent
    (room_after c.self.inside.tree c.change_noted.new.tree c.args.editor.now c.self.inside.sessions c.change_noted.new.sessions
    c.change_noted.result c.change_noted.ensures.err c.change_noted.ensures.room))

pub invariant_of-self : goal.invariant_of-self
invariant_of-self c =
    set_kept c.self.inside.tree.current.project c.change_noted.new.tree.current.project c.self.inside.sessions c.change_noted.new.sessions c.args.editor.now
    c.args.handle (reshaped (feature_at c.self.inside.tree.current.project.features c.args.handle) c.args.shape) c.change_noted.result
    c.current_law.ensures.topology.store c.self.invariant c.current_law.ensures.ordered (subst
    (λ (z : State). refusal_of (desk_of z) (Delete c.args.editor.now c.args.handle) ≡ None) (sym c.self.view_is) c.in_default.ensures)
    c.change_noted.ensures.ok c.change_noted.ensures.noted c.change_noted.ensures.live (project_after c.self.inside.tree c.change_noted.new.tree c.change_noted.result c.change_noted.ensures.err)
    c.change_noted.ensures.room

pub returns-clause-sound : goal.returns-clause-sound
returns-clause-sound c = sound_seen c.self.inside.tree c.change_noted.new.tree.current.project c.self.inside.sessions c.args.self.now c.self.view_is
    c.change_noted.ensures.sound

pub returns-clause-settled : goal.returns-clause-settled
returns-clause-settled c = settled_seen c.self.inside.tree c.change_noted.new.tree.current.project c.self.inside.sessions c.args.self.now
    c.self.view_is
    c.change_noted.ensures.settled

pub returns-clause-aside : goal.returns-clause-aside
returns-clause-aside c = rw (← c.self.view_is) (aside_same c.self.inside.tree c.change_noted.new.tree c.change_noted.ensures.aside)
