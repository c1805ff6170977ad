use Rattle.std.proofs.Common.{◌∙◌, sym, arith}
use Rattle.std.proofs.lemmas.Bool.{eq-eqb, ne_eqb}
use Rattle.outside_rules.proofs.Lookups.{here, past, nowhere}
use Rattle.outside_rules.proofs.found.find.Goals as goal

pub loop-i-preserved : goal.loop-i-preserved
loop-i-preserved c = past c.args.view.now c.loop-i.i c.args.handle c.feature-f.result.now c.feature-f.ensures c.loop-i.invariant
    (ne_eqb _ _ (λ e. c.if-handle.false (c.handle.ensures ∙ e)))

pub returns-then-handle : goal.returns-then-handle
returns-then-handle c = here c.args.view.now c.loop-i.i c.args.handle c.feature-f.result.now c.feature-f.ensures c.loop-i.invariant
    (eq-eqb _ _ (sym c.handle.ensures ∙ c.if-handle.true))

pub returns : goal.returns
returns c = nowhere c.args.view.now c.loop-i.i c.args.handle (omega (arith, c.len-i-end.ensures, c.loop-i-test.false)) c.loop-i.invariant
