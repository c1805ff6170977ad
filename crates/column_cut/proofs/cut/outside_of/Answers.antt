use Rattle.std.proofs.Common.{◌∙◌, sym, subst}
use Rattle.column_laws.specs.Rising.{IsRising}
use Rattle.column_laws.proofs.Exact.{abscissas-rising}
use Rattle.column_cut.proofs.cut.outside_of.Goals as goal

pub push_strips-requires : goal.push_strips-requires
push_strips-requires c = subst IsRising (sym (c.deref.ensures.value ∙ c.in_ok-abscissas.ensures)
    ∙ c.in-Some.ensures.cases.0) (abscissas-rising c.args.segments.now)
