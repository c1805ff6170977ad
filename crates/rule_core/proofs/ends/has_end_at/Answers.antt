use Rattle.std.proofs.Common.{sym, ◌∙◌}
use Rattle.plane_terms.specs.Point.{same_place}
use Rattle.plane_terms.specs.Shape.{ends_of}
use Rattle.rule_laws.proofs.Tests.{any_there, none_more}
use Rattle.rule_core.proofs.ends.has_end_at.Goals as goal

pub returns-then-eq : goal.returns-then-eq
returns-then-eq c = sym (any_there (same_place c.args.place) (ends_of c.args.line.now) c.loop-i.i c.end.result c.end.ensures
    (sym c.eq.ensures ∙ c.if-eq.true))

pub loop-i-preserved : goal.loop-i-preserved
loop-i-preserved c = none_more (same_place c.args.place) (ends_of c.args.line.now) c.loop-i.i c.end.result c.end.ensures
    (sym c.eq.ensures ∙ c.if-eq.false) c.loop-i.invariant
