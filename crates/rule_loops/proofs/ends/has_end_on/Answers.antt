use Rattle.std.proofs.Common.{sym, ◌∙◌}
use Rattle.plane_terms.specs.Shape.{ends_of}
use Rattle.topology_terms.specs.Cells.{on_both}
use Rattle.rule_laws.proofs.Tests.{any_there, none_more}
use Rattle.rule_loops.proofs.ends.has_end_on.Goals as goal

pub returns-then-is_on_both : goal.returns-then-is_on_both
returns-then-is_on_both c = sym (any_there (on_both c.args.first.now c.args.second.now) (ends_of c.args.line.now) c.loop-i.i c.end.result
    c.end.ensures (sym c.is_on_both.ensures ∙ c.if-is_on_both.true))

pub loop-i-preserved : goal.loop-i-preserved
loop-i-preserved c = none_more (on_both c.args.first.now c.args.second.now) (ends_of c.args.line.now) c.loop-i.i c.end.result c.end.ensures
    (sym c.is_on_both.ensures ∙ c.if-is_on_both.false) c.loop-i.invariant
