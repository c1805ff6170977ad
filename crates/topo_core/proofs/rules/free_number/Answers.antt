use Rattle.std.proofs.Common.{ℕ, ◌≡◌, ◌≢◌, ◌<◌, ◌≤◌, None, sym, subst}
use Rattle.topology_terms.specs.Project.{rule_at}
use Rattle.topo_core.proofs.RuleLists.{run_ends, run_from_1, run_least, run_free}
use Rattle.topo_core.proofs.rules.free_number.Goals as goal

pub returns-clause-from_1 : goal.returns-clause-from_1
returns-clause-from_1 c = subst (λ n. 1 ≤ n) (sym (run_ends c.args.rules.now c.loop-rule.rule-index c.loop-rule.number
    c.loop-rule-test.false c.loop-rule.invariant.run)) (run_from_1 c.args.rules.now)

pub returns-clause-free : goal.returns-clause-free
returns-clause-free c = subst (λ n. rule_at c.args.rules.now n ≡ None) (sym (run_ends c.args.rules.now c.loop-rule.rule-index
    c.loop-rule.number c.loop-rule-test.false c.loop-rule.invariant.run)) (run_free c.args.rules.now 1 c.requires.ascending)

pub returns-clause-least : goal.returns-clause-least
returns-clause-least c = subst (λ n. (k : ℕ) → 1 ≤ k → k < n → rule_at c.args.rules.now k ≢ None)
    (sym (run_ends c.args.rules.now c.loop-rule.rule-index c.loop-rule.number c.loop-rule-test.false c.loop-rule.invariant.run))
    (run_least c.args.rules.now)
