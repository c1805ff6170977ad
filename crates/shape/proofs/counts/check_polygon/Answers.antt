use Rattle.std.proofs.Common.{sym, ◌∙◌, arith}
use Rattle.shape.proofs.Filled.{polygon_bare, polygon_few, polygon_none_few, polygon_full}
use Rattle.shape.proofs.counts.check_polygon.Goals as goal

pub returns-then-has_bare_part-clause-refused : goal.returns-then-has_bare_part-clause-refused
returns-then-has_bare_part-clause-refused c = polygon_bare c.args.parts.now (sym c.has_bare_part.ensures ∙ c.if-has_bare_part.true)

pub returns-in-Some-clause-refused : goal.returns-in-Some-clause-refused
returns-in-Some-clause-refused c =
    polygon_few c.args.parts.now c.in-Some.part (sym c.is_empty.ensures ∙ c.if-is_empty.false) (sym c.has_bare_part.ensures
    ∙ c.if-has_bare_part.false) (sym c.first_short_ring.ensures ∙ c.in-Some.is)

pub returns-then-count-gt-MOST-clause-refused : goal.returns-then-count-gt-MOST-clause-refused
returns-then-count-gt-MOST-clause-refused c = (
  polygon_none_few c.args.parts.now (sym c.is_empty.ensures ∙ c.if-is_empty.false) (sym c.has_bare_part.ensures ∙ c.if-has_bare_part.false)
      (sym c.first_short_ring.ensures ∙ c.in_default.is),
  (c.count_in_parts-count.ensures, omega (arith, c.if-count-gt-MOST.true)),
)

pub returns-clause-full : goal.returns-clause-full
returns-clause-full c =
    polygon_full c.args.parts.now c.count_in_parts-count.result (sym c.is_empty.ensures ∙ c.if-is_empty.false) (sym c.has_bare_part.ensures
    ∙ c.if-has_bare_part.false) (sym c.first_short_ring.ensures ∙ c.in_default.is) c.count_in_parts-count.ensures
    (omega (arith, c.if-count-gt-MOST.false))
