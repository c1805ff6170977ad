use Rattle.std.proofs.Common.{sym, ◌∙◌}
use Rattle.plane_terms.specs.Point.{Place}
use Rattle.plane_terms.specs.Rectangle.{rect_at, is_within}
use Rattle.plane_terms.specs.Shape.{ends_of}
use Rattle.rule_laws.proofs.Tests.{any_there, none_more}
use Rattle.validation.proofs.ends.has_end_in.Goals as goal

pub returns-then-holds_point : goal.returns-then-holds_point
returns-then-holds_point c = sym (any_there (λ (q : Place). is_within (rect_at q) c.args.r.now) (ends_of c.args.line.now) c.loop-i.i
    c.end.result c.end.ensures (sym c.holds_point.ensures.value ∙ c.if-holds_point.true))

pub loop-i-preserved : goal.loop-i-preserved
loop-i-preserved c = none_more (λ (q : Place). is_within (rect_at q) c.args.r.now) (ends_of c.args.line.now) c.loop-i.i c.end.result
    c.end.ensures (sym c.holds_point.ensures.value ∙ c.if-holds_point.false) c.loop-i.invariant
