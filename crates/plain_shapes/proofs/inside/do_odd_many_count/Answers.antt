use Rattle.std.proofs.Common.{rules, sym, ap, ◌∙◌}
use borrow.Author.Tests.{tests}
use Rattle.std.proofs.lemmas.Iterator.{YieldsList-from_slice}
use Rattle.std.proofs.lemmas.Iterator.Consumers.{YieldsList-from_filter, count_from_yields_List}
use Rattle.plane_terms.specs.Lists.{is_odd}
use Rattle.plane_terms.specs.Segment.{Segment}
use Rattle.plane_terms.specs.Polygon.{counts}
use Rattle.plane_terms.proofs.ListLemmas.{how_many-filter}
use Rattle.plain_shapes.proofs.Insides.{odd_is}
use Rattle.plain_shapes.proofs.inside.do_odd_many_count.Goals as goal

pub returns : goal.returns
returns c = λ p i.
    let ss = c.args.segments.now in
    let n = count_from_yields_List c.filter.result c.count.result c.count.ensures.ran
    (YieldsList-from_filter _ (λ (s : Segment). counts s p) (YieldsList-from_slice c.args.segments.now cc) c.filter.ensures.closure
    (λ x b q k. search (rules, tests))) in
    odd_is c.count.result ∙ ap is_odd (n ∙ sym (how_many-filter (λ s. counts s p) ss))
