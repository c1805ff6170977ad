use Rattle.edit_session.specs.Moves.{MayAll}
use Rattle.command_answers.proofs.KeptLists.{named_has}
use Rattle.command_answers.proofs.Sessions.{May}
use Rattle.command_answers.proofs.SessionLines.{discard_stays, discard_replied, discard_kept}
use Rattle.command_answers.proofs.Trees.{discarded_aside, discarded_project, refused_project, settled_seen, sound_seen}
use Rattle.command_answers.proofs.world.World.answer_discard.Goals as goal

pub discard-requires : goal.discard-requires
discard-requires c = record {
  may = λ s e. named_has (MayAll (May c.self.inside.tree.current.project)) c.self.inside.sessions c.args.editor.now s e
      c.self.invariant.may;
}

pub returns-clause-answers : goal.returns-clause-answers
returns-clause-answers c =
    rw (← c.self.view_is) (discard_replied c.self.inside.tree.current.project c.discard.new.ground.current.project c.self.inside.sessions c.discard.new.self
    c.args.editor.now c.discard.result c.reply_to_session.result c.self.invariant (discarded_project c.self.inside.tree c.discard.new.ground c.args.editor.now c.self.inside.sessions c.discard.new.self c.discard.result c.discard.ensures.done) (refused_project c.self.inside.tree c.discard.new.ground c.args.editor.now c.self.inside.sessions c.discard.new.self c.discard.result c.discard.ensures.refused)
    c.reply_to_session.ensures.said)

pub invariant_of-self : goal.invariant_of-self
invariant_of-self c = discard_kept c.self.inside.tree.current.project c.discard.new.ground.current.project c.self.inside.sessions c.discard.new.self c.args.editor.now
    c.discard.result c.self.invariant (discarded_project c.self.inside.tree c.discard.new.ground c.args.editor.now c.self.inside.sessions c.discard.new.self c.discard.result c.discard.ensures.done) (refused_project c.self.inside.tree c.discard.new.ground c.args.editor.now c.self.inside.sessions c.discard.new.self c.discard.result c.discard.ensures.refused)

pub returns-clause-sound : goal.returns-clause-sound
returns-clause-sound c = sound_seen c.self.inside.tree c.discard.new.ground.current.project c.self.inside.sessions c.args.self.now c.self.view_is
    (discard_stays c.self.inside.tree.current.project c.discard.new.ground.current.project c.self.inside.sessions c.discard.new.self c.args.editor.now c.discard.result
    (discarded_project c.self.inside.tree c.discard.new.ground c.args.editor.now c.self.inside.sessions c.discard.new.self c.discard.result c.discard.ensures.done) (refused_project c.self.inside.tree c.discard.new.ground c.args.editor.now c.self.inside.sessions c.discard.new.self c.discard.result c.discard.ensures.refused)).0

pub returns-clause-settled : goal.returns-clause-settled
returns-clause-settled c = settled_seen c.self.inside.tree c.discard.new.ground.current.project c.self.inside.sessions c.args.self.now c.self.view_is
    (discard_stays c.self.inside.tree.current.project c.discard.new.ground.current.project c.self.inside.sessions c.discard.new.self c.args.editor.now c.discard.result
    (discarded_project c.self.inside.tree c.discard.new.ground c.args.editor.now c.self.inside.sessions c.discard.new.self c.discard.result c.discard.ensures.done) (refused_project c.self.inside.tree c.discard.new.ground c.args.editor.now c.self.inside.sessions c.discard.new.self c.discard.result c.discard.ensures.refused)).1

pub returns-clause-aside : goal.returns-clause-aside
returns-clause-aside c = rw (← c.self.view_is) (discarded_aside c.self.inside.tree c.discard.new.ground c.args.editor.now c.self.inside.sessions c.discard.new.self c.discard.result c.discard.ensures.done c.discard.ensures.refused)
