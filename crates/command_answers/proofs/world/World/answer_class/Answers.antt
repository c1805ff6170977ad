use Rattle.command_answers.proofs.Replying.{kept_by, class_replied, class_kept}
use Rattle.command_answers.proofs.Trees.{aside_same, project_after, same_after, settled_seen, sound_seen}
use Rattle.command_answers.proofs.world.World.answer_class.Goals as goal

pub returns-clause-answers : goal.returns-clause-answers
returns-clause-answers c =
    rw (← c.self.view_is) (class_replied c.self.inside.tree.current.project c.add_class.new.self.current.project c.self.inside.sessions c.args.name c.args.kind
    c.add_class.result c.reply_to_class.result c.add_class.ensures.ok c.add_class.ensures.number c.add_class.ensures.may
    c.add_class.ensures.refused (project_after c.self.inside.tree c.add_class.new.self c.add_class.result c.add_class.ensures.err) c.reply_to_class.ensures.said)

pub returns-clause-err : goal.returns-clause-err
returns-clause-err c =
    rw (← c.self.view_is) (kept_by _ c.add_class.result c.reply_to_class.result c.reply_to_class.ensures.spent
    (same_after c.self.inside.tree c.add_class.new.self c.self.inside.sessions c.add_class.result c.add_class.ensures.err))

pub invariant_of-self : goal.invariant_of-self
invariant_of-self c = class_kept c.self.inside.tree.current.project c.add_class.new.self.current.project c.self.inside.sessions c.args.name c.args.kind
    c.add_class.result c.self.invariant c.add_class.ensures.ok (project_after c.self.inside.tree c.add_class.new.self c.add_class.result c.add_class.ensures.err)

pub returns-clause-sound : goal.returns-clause-sound
returns-clause-sound c = sound_seen c.self.inside.tree c.add_class.new.self.current.project c.self.inside.sessions c.args.self.now c.self.view_is
    c.add_class.ensures.sound

pub returns-clause-settled : goal.returns-clause-settled
returns-clause-settled c = settled_seen c.self.inside.tree c.add_class.new.self.current.project c.self.inside.sessions c.args.self.now c.self.view_is
    c.add_class.ensures.settled

pub returns-clause-aside : goal.returns-clause-aside
returns-clause-aside c = rw (← c.self.view_is) (aside_same c.self.inside.tree c.add_class.new.self c.add_class.ensures.aside)
