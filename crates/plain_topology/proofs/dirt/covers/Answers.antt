use Rattle.std.proofs.Common.{rules}
use borrow.Author.Tests.{tests}
use Rattle.std.proofs.lemmas.Iterator.{YieldsList-from_slice, cases_from_any}
use Rattle.plane_terms.specs.Rectangle.{Rectangle, RectHolds}
use Rattle.plain_shapes.proofs.Somewhere.{some_is}
use Rattle.plain_topology.proofs.dirt.covers.Goals as goal

pub returns : goal.returns
returns c = λ p i.
    some_is (λ r. RectHolds r p) c.any.result c.args.dirt.now
    (cases_from_any _ _ _ (λ (r : Rectangle). RectHolds r p) (λ (r : Rectangle). ¬ (RectHolds r p)) c.any.ensures.ran
    (YieldsList-from_slice c.args.dirt.now cc)
    (λ x q k. search (rules, tests))
    (λ x q k. search (rules, tests)))
