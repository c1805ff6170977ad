use Rattle.edit_session.specs.Moves.{MayAll}
use Rattle.command_answers.proofs.KeptLists.{named_has}
use Rattle.command_answers.proofs.Sessions.{May}
use Rattle.command_answers.proofs.SessionLines.{undo_stays, undo_replied, undo_kept}
use Rattle.command_answers.proofs.Replying.{kept_by}
use Rattle.command_answers.proofs.Trees.{settled_seen, sound_seen, still_after, still_project, undone_aside, undone_project}
use Rattle.command_answers.proofs.world.World.answer_undo.Goals as goal

pub undo-requires : goal.undo-requires
undo-requires c = record {
  may = λ s e. named_has (MayAll (May c.self.inside.tree.current.project)) c.self.inside.sessions c.args.editor.now s e
      c.self.invariant.may;
}

pub returns-clause-answers : goal.returns-clause-answers
returns-clause-answers c =
    rw (← c.self.view_is) (undo_replied c.self.inside.tree.current.project c.undo.new.ground.current.project c.self.inside.sessions c.undo.new.self c.args.editor.now
    c.undo.result c.reply_to_session.result c.self.invariant (undone_project c.self.inside.tree c.undo.new.ground c.args.editor.now c.self.inside.sessions c.undo.new.self c.undo.result c.undo.ensures.done) c.undo.ensures.refused c.undo.ensures.kept
    (still_project c.self.inside.tree c.undo.new.ground c.undo.result c.undo.ensures.same) c.reply_to_session.ensures.said)

pub returns-clause-err : goal.returns-clause-err
returns-clause-err c =
    rw (← c.self.view_is) (kept_by _ c.undo.result c.reply_to_session.result c.reply_to_session.ensures.spent
    (still_after c.self.inside.tree c.undo.new.ground c.self.inside.sessions c.undo.new.self c.undo.result c.undo.ensures.kept
    c.undo.ensures.same))

pub invariant_of-self : goal.invariant_of-self
invariant_of-self c = undo_kept c.self.inside.tree.current.project c.undo.new.ground.current.project c.self.inside.sessions c.undo.new.self c.args.editor.now
    c.undo.result c.self.invariant (undone_project c.self.inside.tree c.undo.new.ground c.args.editor.now c.self.inside.sessions c.undo.new.self c.undo.result c.undo.ensures.done) c.undo.ensures.kept (still_project c.self.inside.tree c.undo.new.ground c.undo.result c.undo.ensures.same)

pub returns-clause-sound : goal.returns-clause-sound
returns-clause-sound c = sound_seen c.self.inside.tree c.undo.new.ground.current.project c.self.inside.sessions c.args.self.now c.self.view_is
    (undo_stays c.self.inside.tree.current.project c.undo.new.ground.current.project c.self.inside.sessions c.undo.new.self c.args.editor.now c.undo.result (undone_project c.self.inside.tree c.undo.new.ground c.args.editor.now c.self.inside.sessions c.undo.new.self c.undo.result c.undo.ensures.done)
    (still_project c.self.inside.tree c.undo.new.ground c.undo.result c.undo.ensures.same)).0

pub returns-clause-settled : goal.returns-clause-settled
returns-clause-settled c = settled_seen c.self.inside.tree c.undo.new.ground.current.project c.self.inside.sessions c.args.self.now c.self.view_is
    (undo_stays c.self.inside.tree.current.project c.undo.new.ground.current.project c.self.inside.sessions c.undo.new.self c.args.editor.now c.undo.result (undone_project c.self.inside.tree c.undo.new.ground c.args.editor.now c.self.inside.sessions c.undo.new.self c.undo.result c.undo.ensures.done)
    (still_project c.self.inside.tree c.undo.new.ground c.undo.result c.undo.ensures.same)).1

pub returns-clause-aside : goal.returns-clause-aside
returns-clause-aside c = rw (← c.self.view_is) (undone_aside c.self.inside.tree c.undo.new.ground c.args.editor.now c.self.inside.sessions c.undo.new.self c.undo.result c.undo.ensures.done c.undo.ensures.same)
