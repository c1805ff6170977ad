use Rattle.std.proofs.Common.{sym, ◌∙◌}
use Rattle.std.specs.Cmp.{booleans_Decides}
use Rattle.std.proofs.lemmas.Bool.{false≢true}
use Rattle.sound_check.proofs.Pairs.{wholes_apart}
use Rattle.sound_check.proofs.pair.do_wholes_agree.Goals as goal

pub returns-in-Some : goal.returns-in-Some
returns-in-Some c = wholes_apart c.args.dirt.now c.args.envelope c.in-Some.envelope c.args.fresh.now c.args.stored.now c.args.rule
    c.args.subject c.has_whole.result c.has_whole-2.result c.meets.result c.in-Some.is c.has_whole.ensures c.has_whole-2.ensures
    (λ e. false≢true (sym c.if-has_whole.false ∙ (booleans_Decides c.has_whole.result c.has_whole-2.result).1 e)) c.meets.ensures.meaning
