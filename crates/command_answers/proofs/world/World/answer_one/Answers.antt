use Rattle.std.proofs.Common.{◌∙◌, ap, true, false, Bool}
use Rattle.topology_terms.specs.Causes.{when}
use Rattle.topology_terms.specs.Settled.{IsSettled}
use Rattle.topology_terms.specs.Sound.{IsSound}
use Rattle.script_terms.specs.Refusal.{VersionsThere}
use Rattle.script_text.specs.Seen.{command_of}
use Rattle.command_answers.proofs.AllVersions.{all_answered, barred_answered, keeps_all}
use Rattle.command_answers.proofs.world.World.answer_one.Goals as goal

pub returns-then-is_barred-clause-answers : goal.returns-then-is_barred-clause-answers
returns-then-is_barred-clause-answers c = barred_answered c.args.self.now (command_of c.args.command)
    (c.is_barred.ensures ∙ ap (λ (b : Bool). when b VersionsThere) c.if-is_barred.true)

pub answer_at_desk-requires-clause-free : goal.answer_at_desk-requires-clause-free
answer_at_desk-requires-clause-free c = c.is_barred.ensures ∙ ap (λ (b : Bool). when b VersionsThere) c.if-is_barred.false

pub returns-clause-answers : goal.returns-clause-answers
returns-clause-answers c = all_answered c.args.self.now c.answer_at_desk.new.self (command_of c.args.command) c.answer_at_desk.result
    c.requires (c.is_barred.ensures ∙ ap (λ (b : Bool). when b VersionsThere) c.if-is_barred.false) c.answer_at_desk.ensures.answers
    c.answer_at_desk.ensures.aside

pub returns-clause-sound : goal.returns-clause-sound
returns-clause-sound c =
    keeps_all IsSound c.args.self.now c.answer_at_desk.new.self c.answer_at_desk.ensures.sound c.answer_at_desk.ensures.aside

pub returns-clause-settled : goal.returns-clause-settled
returns-clause-settled c =
    keeps_all IsSettled c.args.self.now c.answer_at_desk.new.self c.answer_at_desk.ensures.settled c.answer_at_desk.ensures.aside
