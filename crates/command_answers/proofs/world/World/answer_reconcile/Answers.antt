use Rattle.std.proofs.Common.{◌∙◌, subst, sym}
use Rattle.std.specs.Prelude.{IfOk}
use Rattle.topology_terms.specs.Settled.{IsSettled}
use Rattle.topology_terms.specs.Sound.{IsSound}
use Rattle.line_terms.specs.Commands.{Reconcile}
use Rattle.script_terms.specs.Refusal.{SessionsOpen}
use Rattle.script_terms.specs.Reply.{Refused}
use Rattle.script_terms.specs.State.{OfAll, State}
use Rattle.script_terms.specs.Versions.{IsAnswered}
use Rattle.reply_text.specs.Replies.{said_of}
use Rattle.command_answers.specs.Worlds.{state_of}
use Rattle.command_answers.proofs.VersionLines.{merged_barred, merged_answered, none_open}
use Rattle.command_answers.proofs.world.World.answer_reconcile.Goals as goal

pub returns-then-len-ne0-clause-answers : goal.returns-then-len-ne0-clause-answers
returns-then-len-ne0-clause-answers c =
    subst (λ (z : State). IsAnswered z (Reconcile c.args.name.now) (Refused SessionsOpen) z) c.self.view_is
    (merged_barred c.self.inside.tree c.self.inside.sessions c.args.name.now (λ e. c.if-len-ne0.true (c.len.ensures ∙ e)))

pub invariant_of-self : goal.invariant_of-self
invariant_of-self c = none_open c.reconcile.new.self c.self.inside.sessions (sym c.len.ensures ∙ c.if-len-ne0.false)

pub returns-clause-answers : goal.returns-clause-answers
returns-clause-answers c =
    subst (λ (z : State). IfOk c.reply_to_merge.result (λ r. IsAnswered z (Reconcile c.args.name.now) (said_of c.reconcile.new.self.current.project r)
    (state_of c.reconcile.new.self c.self.inside.sessions))) c.self.view_is
    (merged_answered c.self.inside.tree c.reconcile.new.self c.self.inside.sessions c.args.name.now c.reconcile.result c.reply_to_merge.result
    (sym c.len.ensures ∙ c.if-len-ne0.false) c.reconcile.ensures.ok c.reconcile.ensures.refused c.reply_to_merge.ensures)

pub returns-clause-sound : goal.returns-clause-sound
returns-clause-sound c =
    subst (λ (z : State). OfAll IsSound z → OfAll IsSound (state_of c.reconcile.new.self c.self.inside.sessions)) c.self.view_is c.reconcile.ensures.sound

pub returns-clause-settled : goal.returns-clause-settled
returns-clause-settled c =
    subst (λ (z : State). OfAll IsSettled z → OfAll IsSettled (state_of c.reconcile.new.self c.self.inside.sessions)) c.self.view_is
    c.reconcile.ensures.settled
