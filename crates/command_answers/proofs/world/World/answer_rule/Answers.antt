use Rattle.std.proofs.Common.{◌≡◌, sym, subst, false}
use Rattle.script_terms.specs.Refusing.{row_of, is_nowhere}
use Rattle.script_terms.specs.State.{State, desk_of}
use Rattle.std.specs.Prelude.{IfOk}
use Rattle.line_terms.specs.Commands.{Rule}
use Rattle.script_terms.specs.Answer.{Answers}
use Rattle.reply_text.specs.Replies.{said_of}
use Rattle.command_answers.specs.Worlds.{seen_desk}
use Rattle.command_answers.proofs.Replying.{kept_by, rule_replied, rule_kept}
use Rattle.command_answers.proofs.Trees.{aside_same, project_after, same_after, settled_seen, sound_seen}
use Rattle.command_answers.proofs.world.World.answer_rule.Goals as goal

pub returns-clause-answers : goal.returns-clause-answers
returns-clause-answers c =
    let there = subst (λ (q : State). is_nowhere q.project c.args.dest.now ≡ false) (sym c.self.view_is) c.in-Some.ensures.0 in
    let is = subst (λ (q : State). c.in-Some.row ≡ row_of q.project c.args.kind c.args.origin.now c.args.dest.now) (sym c.self.view_is)
    c.in-Some.ensures.1 in
    subst (λ (z : State). IfOk c.reply_to_rule.result (λ r. Answers (desk_of z) (Rule c.args.kind c.args.origin.now c.args.dest.now)
    (said_of c.add_rule.new.self.current.project r) (seen_desk c.add_rule.new.self.current.project c.self.inside.sessions))) c.self.view_is
    (rule_replied c.self.inside.tree.current.project c.add_rule.new.self.current.project c.self.inside.sessions c.args.kind c.args.origin.now c.args.dest.now
    c.in-Some.row c.add_rule.result c.reply_to_rule.result there is c.add_rule.ensures.ok c.add_rule.ensures.may
    c.add_rule.ensures.refused (project_after c.self.inside.tree c.add_rule.new.self c.add_rule.result c.add_rule.ensures.err) c.reply_to_rule.ensures.said)

pub returns-clause-err : goal.returns-clause-err
returns-clause-err c =
    rw (← c.self.view_is) (kept_by _ c.add_rule.result c.reply_to_rule.result c.reply_to_rule.ensures.spent
    (same_after c.self.inside.tree c.add_rule.new.self c.self.inside.sessions c.add_rule.result c.add_rule.ensures.err))

pub invariant_of-self : goal.invariant_of-self
invariant_of-self c = rule_kept c.self.inside.tree.current.project c.add_rule.new.self.current.project c.self.inside.sessions c.in-Some.row c.add_rule.result
    c.self.invariant c.add_rule.ensures.ok (project_after c.self.inside.tree c.add_rule.new.self c.add_rule.result c.add_rule.ensures.err)

pub returns-clause-sound : goal.returns-clause-sound
returns-clause-sound c = sound_seen c.self.inside.tree c.add_rule.new.self.current.project c.self.inside.sessions c.args.self.now c.self.view_is
    c.add_rule.ensures.sound

pub returns-clause-settled : goal.returns-clause-settled
returns-clause-settled c = settled_seen c.self.inside.tree c.add_rule.new.self.current.project c.self.inside.sessions c.args.self.now c.self.view_is
    c.add_rule.ensures.settled

pub returns-clause-aside : goal.returns-clause-aside
returns-clause-aside c = rw (← c.self.view_is) (aside_same c.self.inside.tree c.add_rule.new.self c.add_rule.ensures.aside)
