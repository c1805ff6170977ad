use Rattle.edit_session.specs.Moves.{MayAll}
use Rattle.command_answers.proofs.KeptLists.{named_has}
use Rattle.command_answers.proofs.Sessions.{May}
use Rattle.command_answers.proofs.SessionLines.{redo_stays, redo_replied, redo_kept}
use Rattle.command_answers.proofs.Replying.{kept_by}
use Rattle.command_answers.proofs.Trees.{redone_aside, redone_project, settled_seen, sound_seen, still_after, still_project}
use Rattle.command_answers.proofs.world.World.answer_redo.Goals as goal

pub redo-requires : goal.redo-requires
redo-requires c = record {
  may = λ s e. named_has (MayAll (May c.self.inside.tree.current.project)) c.self.inside.sessions c.args.editor.now s e
      c.self.invariant.may;
}

pub returns-clause-answers : goal.returns-clause-answers
returns-clause-answers c =
    rw (← c.self.view_is) (redo_replied c.self.inside.tree.current.project c.redo.new.ground.current.project c.self.inside.sessions c.redo.new.self c.args.editor.now
    c.redo.result c.reply_to_session.result c.self.invariant (redone_project c.self.inside.tree c.redo.new.ground c.args.editor.now c.self.inside.sessions c.redo.new.self c.redo.result c.redo.ensures.done) c.redo.ensures.refused c.redo.ensures.kept
    (still_project c.self.inside.tree c.redo.new.ground c.redo.result c.redo.ensures.same) c.reply_to_session.ensures.said)

pub returns-clause-err : goal.returns-clause-err
returns-clause-err c =
    rw (← c.self.view_is) (kept_by _ c.redo.result c.reply_to_session.result c.reply_to_session.ensures.spent
    (still_after c.self.inside.tree c.redo.new.ground c.self.inside.sessions c.redo.new.self c.redo.result c.redo.ensures.kept
    c.redo.ensures.same))

pub invariant_of-self : goal.invariant_of-self
invariant_of-self c = redo_kept c.self.inside.tree.current.project c.redo.new.ground.current.project c.self.inside.sessions c.redo.new.self c.args.editor.now
    c.redo.result c.self.invariant (redone_project c.self.inside.tree c.redo.new.ground c.args.editor.now c.self.inside.sessions c.redo.new.self c.redo.result c.redo.ensures.done) c.redo.ensures.kept (still_project c.self.inside.tree c.redo.new.ground c.redo.result c.redo.ensures.same)

pub returns-clause-sound : goal.returns-clause-sound
returns-clause-sound c = sound_seen c.self.inside.tree c.redo.new.ground.current.project c.self.inside.sessions c.args.self.now c.self.view_is
    (redo_stays c.self.inside.tree.current.project c.redo.new.ground.current.project c.self.inside.sessions c.redo.new.self c.args.editor.now c.redo.result (redone_project c.self.inside.tree c.redo.new.ground c.args.editor.now c.self.inside.sessions c.redo.new.self c.redo.result c.redo.ensures.done)
    (still_project c.self.inside.tree c.redo.new.ground c.redo.result c.redo.ensures.same)).0

pub returns-clause-settled : goal.returns-clause-settled
returns-clause-settled c = settled_seen c.self.inside.tree c.redo.new.ground.current.project c.self.inside.sessions c.args.self.now c.self.view_is
    (redo_stays c.self.inside.tree.current.project c.redo.new.ground.current.project c.self.inside.sessions c.redo.new.self c.args.editor.now c.redo.result (redone_project c.self.inside.tree c.redo.new.ground c.args.editor.now c.self.inside.sessions c.redo.new.self c.redo.result c.redo.ensures.done)
    (still_project c.self.inside.tree c.redo.new.ground c.redo.result c.redo.ensures.same)).1

pub returns-clause-aside : goal.returns-clause-aside
returns-clause-aside c = rw (← c.self.view_is) (redone_aside c.self.inside.tree c.redo.new.ground c.args.editor.now c.self.inside.sessions c.redo.new.self c.redo.result c.redo.ensures.done c.redo.ensures.same)
