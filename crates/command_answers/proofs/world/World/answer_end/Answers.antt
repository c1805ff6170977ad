use Rattle.command_answers.proofs.SessionLines.{end_replied, end_kept}
use Rattle.command_answers.proofs.Replying.{kept_by}
use Rattle.command_answers.proofs.Trees.{left_after, settled_seen, sound_seen}
use Rattle.command_answers.proofs.world.World.answer_end.Goals as goal

pub returns-clause-answers : goal.returns-clause-answers
returns-clause-answers c =
    rw (← c.self.view_is) (end_replied c.self.inside.tree.current.project c.self.inside.sessions c.end.new.self c.args.editor.now c.end.result
    c.reply_to_session.result c.end.ensures.done c.end.ensures.there c.end.ensures.refused c.end.ensures.kept
    c.reply_to_session.ensures.said)

pub returns-clause-err : goal.returns-clause-err
returns-clause-err c =
    rw (← c.self.view_is) (kept_by _ c.end.result c.reply_to_session.result c.reply_to_session.ensures.spent
    (left_after c.self.inside.tree c.self.inside.sessions c.end.new.self c.end.result c.end.ensures.kept))

pub invariant_of-self : goal.invariant_of-self
invariant_of-self c = end_kept c.self.inside.tree.current.project c.self.inside.sessions c.end.new.self c.args.editor.now c.end.result c.self.invariant
    c.end.ensures.done c.end.ensures.kept

pub returns-clause-sound : goal.returns-clause-sound
returns-clause-sound c = sound_seen c.self.inside.tree c.self.inside.tree.current.project c.self.inside.sessions c.args.self.now c.self.view_is
    (λ k. k)

pub returns-clause-settled : goal.returns-clause-settled
returns-clause-settled c = settled_seen c.self.inside.tree c.self.inside.tree.current.project c.self.inside.sessions c.args.self.now c.self.view_is
    (λ k. k)
