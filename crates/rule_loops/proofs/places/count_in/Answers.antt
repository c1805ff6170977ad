use Rattle.std.proofs.Common.{rules, sym, ◌∙◌}
use borrow.Author.Tests.{tests}
use Rattle.std.proofs.lemmas.Iterator.{YieldsList-from_slice}
use Rattle.std.proofs.lemmas.Iterator.Consumers.{YieldsList-from_filter, count_from_yields_List}
use Rattle.plane_terms.specs.Line.{holds_place}
use Rattle.plane_terms.specs.Segment.{Segment}
use Rattle.plane_terms.proofs.ListLemmas.{how_many-filter}
use Rattle.rule_loops.proofs.places.count_in.Goals as goal

pub returns : goal.returns
returns c =
    let ss = c.args.segments.now in
    let n = count_from_yields_List c.filter.result c.count.result c.count.ensures.ran
    (YieldsList-from_filter _ (λ (t : Segment). holds_place t c.args.place) (YieldsList-from_slice ss cc) c.filter.ensures.closure
    (λ x b q k. search (rules, tests))) in
    n ∙ sym (how_many-filter (λ t. holds_place t c.args.place) ss)
