use Rattle.std.proofs.Common.{◌∙◌, subst, sym}
use Rattle.std.specs.Prelude.{IfOk}
use Rattle.topology_terms.specs.Settled.{IsSettled}
use Rattle.topology_terms.specs.Sound.{IsSound}
use Rattle.line_terms.specs.Commands.{Version}
use Rattle.script_terms.specs.Refusal.{SessionsOpen}
use Rattle.script_terms.specs.Reply.{Refused}
use Rattle.script_terms.specs.State.{OfAll, State}
use Rattle.script_terms.specs.Versions.{IsAnswered}
use Rattle.reply_text.specs.Replies.{said_of}
use Rattle.command_answers.specs.Worlds.{state_of}
use Rattle.command_answers.proofs.Replying.{kept_by}
use Rattle.command_answers.proofs.Trees.{same_after}
use Rattle.command_answers.proofs.VersionLines.{made_barred, made_answered, none_open}
use Rattle.command_answers.proofs.world.World.answer_version.Goals as goal

pub returns-then-len-ne0-clause-answers : goal.returns-then-len-ne0-clause-answers
returns-then-len-ne0-clause-answers c =
    subst (λ (z : State). IsAnswered z (Version c.args.name) (Refused SessionsOpen) z) c.self.view_is
    (made_barred c.self.inside.tree c.self.inside.sessions c.args.name (λ e. c.if-len-ne0.true (c.len.ensures ∙ e)))

pub invariant_of-self : goal.invariant_of-self
invariant_of-self c = none_open c.create.new.self c.self.inside.sessions (sym c.len.ensures ∙ c.if-len-ne0.false)

pub returns-clause-answers : goal.returns-clause-answers
returns-clause-answers c =
    subst (λ (z : State). IfOk c.reply_to_version.result (λ r. IsAnswered z (Version c.args.name) (said_of c.create.new.self.current.project r)
    (state_of c.create.new.self c.self.inside.sessions))) c.self.view_is
    (made_answered c.self.inside.tree c.create.new.self c.self.inside.sessions c.args.name c.create.result c.reply_to_version.result
    (sym c.len.ensures ∙ c.if-len-ne0.false) c.create.ensures.ok c.create.ensures.refused c.create.ensures.err c.reply_to_version.ensures.said)

pub returns-clause-sound : goal.returns-clause-sound
returns-clause-sound c =
    subst (λ (z : State). OfAll IsSound z → OfAll IsSound (state_of c.create.new.self c.self.inside.sessions)) c.self.view_is c.create.ensures.sound

pub returns-clause-settled : goal.returns-clause-settled
returns-clause-settled c =
    subst (λ (z : State). OfAll IsSettled z → OfAll IsSettled (state_of c.create.new.self c.self.inside.sessions)) c.self.view_is
    c.create.ensures.settled

pub returns-clause-err : goal.returns-clause-err
returns-clause-err c =
    rw (← c.self.view_is) (kept_by _ c.create.result c.reply_to_version.result c.reply_to_version.ensures.spent
    (same_after c.self.inside.tree c.create.new.self c.self.inside.sessions c.create.result c.create.ensures.err))
