use Rattle.std.proofs.lemmas.Result.{IfOk-weaker}
use Rattle.topology_terms.specs.Entry.{IsAscending}
use Rattle.validation_laws.proofs.Judging.{judging_ascends}
use Rattle.sound_laws.proofs.RuleLists.{each_rule}
use Rattle.validation.proofs.window.rejudge.Goals as goal

pub judge_all-requires-clause-fits : goal.judge_all-requires-clause-fits
judge_all-requires-clause-fits g c = rw (c.indexed-indexed.ensures, c.in_force-in_force.ensures) (each_rule (λ row.
    g.R.RuleSet.meaning.Fits row c.args.ruled.now.features) c.args.ruled.now.in_force c.order_law.ensures.rules c.requires.fits)

pub returns-clause-judging : goal.returns-clause-judging
returns-clause-judging g c = rw (c.indexed-indexed.ensures, c.in_force-in_force.ensures) at c.judge_all.ensures.judging

pub returns-clause-ascending : goal.returns-clause-ascending
returns-clause-ascending g c = IfOk-weaker c.judge_all.result _ (λ es. IsAscending es.items) (λ es h. judging_ascends
    g.R.RuleSet.meaning c.indexed-indexed.result.features c.args.selected.now c.in_force-in_force.result.now es.items
    (rw c.in_force-in_force.ensures c.order_law.ensures.rules) c.requires.selected h) c.judge_all.ensures.judging

pub returns-clause-judged : goal.returns-clause-judged
returns-clause-judged g c = rw (c.indexed-indexed.ensures, c.in_force-in_force.ensures) at c.judge_all.ensures.judged

pub returns-clause-stopped : goal.returns-clause-stopped
returns-clause-stopped g c = rw (c.indexed-indexed.ensures, c.in_force-in_force.ensures) at c.judge_all.ensures.stopped

pub returns-clause-steps : goal.returns-clause-steps
returns-clause-steps g c = rw (c.indexed-indexed.ensures, c.in_force-in_force.ensures) at c.judge_all.ensures.steps
