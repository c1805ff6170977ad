use Rattle.command_answers.proofs.SessionLines.{begin_replied, begin_kept}
use Rattle.command_answers.proofs.Replying.{kept_by}
use Rattle.command_answers.proofs.Trees.{left_after, settled_seen, sound_seen}
use Rattle.command_answers.proofs.world.World.answer_begin.Goals as goal

pub returns-clause-answers : goal.returns-clause-answers
returns-clause-answers c =
    rw (← c.self.view_is) (begin_replied c.self.inside.tree.current.project c.self.inside.sessions c.begin.new.self c.args.editor c.begin.result
    c.reply_to_session.result c.begin.ensures.done c.begin.ensures.refused c.begin.ensures.kept c.reply_to_session.ensures.said)

pub returns-clause-err : goal.returns-clause-err
returns-clause-err c =
    rw (← c.self.view_is) (kept_by _ c.begin.result c.reply_to_session.result c.reply_to_session.ensures.spent
    (left_after c.self.inside.tree c.self.inside.sessions c.begin.new.self c.begin.result c.begin.ensures.kept))

pub invariant_of-self : goal.invariant_of-self
invariant_of-self c = begin_kept c.self.inside.tree.current.project c.self.inside.sessions c.begin.new.self c.args.editor c.begin.result
    c.self.invariant c.begin.ensures.done c.begin.ensures.kept

pub returns-clause-sound : goal.returns-clause-sound
returns-clause-sound c = sound_seen c.self.inside.tree c.self.inside.tree.current.project c.self.inside.sessions c.args.self.now c.self.view_is
    (λ k. k)

pub returns-clause-settled : goal.returns-clause-settled
returns-clause-settled c = settled_seen c.self.inside.tree c.self.inside.tree.current.project c.self.inside.sessions c.args.self.now c.self.view_is
    (λ k. k)
