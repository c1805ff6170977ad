use Rattle.std.proofs.Common.{false}
use Rattle.command_answers.proofs.Marking.{mark_replied, mark_kept}
use Rattle.command_answers.proofs.Trees.{aside_same, project_after, settled_seen, sound_seen}
use Rattle.command_answers.proofs.world.World.answer_unmark.Goals as goal

pub returns-clause-answers : goal.returns-clause-answers
returns-clause-answers c =
    let p = c.self.inside.tree.current.project in
    let q = c.mark.new.self.current.project in
    let k = c.args.key in
    let m = c.mark.ensures in
    rw (← c.self.view_is) (mark_replied p q c.self.inside.sessions k.rule k.subject k.other false c.mark.result c.reply_to_mark.result m.ok
    m.may m.refused (project_after c.self.inside.tree c.mark.new.self c.mark.result m.err) c.reply_to_mark.ensures)

pub invariant_of-self : goal.invariant_of-self
invariant_of-self c =
    let p = c.self.inside.tree.current.project in
    let k = c.args.key in
    let m = c.mark.ensures in
    mark_kept p c.mark.new.self.current.project c.self.inside.sessions k.rule k.subject k.other false c.mark.result c.self.invariant m.ok
    (project_after c.self.inside.tree c.mark.new.self c.mark.result m.err)

pub returns-clause-sound : goal.returns-clause-sound
returns-clause-sound c = sound_seen c.self.inside.tree c.mark.new.self.current.project c.self.inside.sessions c.args.self.now c.self.view_is
    c.mark.ensures.sound

pub returns-clause-settled : goal.returns-clause-settled
returns-clause-settled c = settled_seen c.self.inside.tree c.mark.new.self.current.project c.self.inside.sessions c.args.self.now c.self.view_is
    c.mark.ensures.settled

pub returns-clause-aside : goal.returns-clause-aside
returns-clause-aside c = rw (← c.self.view_is) (aside_same c.self.inside.tree c.mark.new.self c.mark.ensures.aside)
