use Rattle.std.proofs.Common.{sym, ◌∙◌, arith, ap, length, List}
use Rattle.plane_terms.specs.Point.{Place}
use Rattle.shape.proofs.Filled.{line_count, line_vertices, line_few, line_none_few, line_many, line_full}
use Rattle.shape.proofs.counts.check_line.Goals as goal

pub first_short-requires : goal.first_short-requires
first_short-requires c = omega (arith, c.requires.rings, line_count c.args.parts.now)

pub returns-in-Some-clause-refused : goal.returns-in-Some-clause-refused
returns-in-Some-clause-refused c =
    line_few c.args.parts.now c.in-Some.part (sym c.is_empty.ensures ∙ c.if-is_empty.false) (sym c.first_short.ensures ∙ c.in-Some.is)

pub count_vertices-count-requires : goal.count_vertices-count-requires
count_vertices-count-requires c = omega (arith, c.requires.vertices, ap (λ (vs : List Place). length vs) (line_vertices c.args.parts.now))

pub returns-then-count-gt-MOST-clause-refused : goal.returns-then-count-gt-MOST-clause-refused
returns-then-count-gt-MOST-clause-refused c = (
  line_none_few c.args.parts.now (sym c.is_empty.ensures ∙ c.if-is_empty.false) (sym c.first_short.ensures ∙ c.in_default.is),
  (line_many c.args.parts.now c.count_vertices-count.result c.count_vertices-count.ensures, omega (arith, c.if-count-gt-MOST.true)),
)

pub returns-clause-full : goal.returns-clause-full
returns-clause-full c =
    line_full c.args.parts.now c.count_vertices-count.result (sym c.is_empty.ensures ∙ c.if-is_empty.false) (sym c.first_short.ensures
    ∙ c.in_default.is) c.count_vertices-count.ensures (omega (arith, c.if-count-gt-MOST.false))
