use Rattle.std.proofs.Common.{rules, ◌↔◌, IsTrue}
use borrow.Author.Tests.{tests}
use Rattle.std.proofs.lemmas.Iterator.{YieldsList-from_slice, cases_from_any}
use Rattle.plane_terms.specs.Lists.{SomeOf}
use Rattle.plane_terms.specs.Segment.{Segment, OnSegment}
use Rattle.cell_laws.proofs.Lists.{some_same}
use Rattle.grid_plane.specs.Rectangles.{HoldsAt}
use Rattle.plain_shapes.proofs.Somewhere.{some_is}
use Rattle.plain_shapes.proofs.Insides.{on_place}
use Rattle.plain_shapes.proofs.inside.is_on_boundary.Goals as goal

pub returns : goal.returns
returns c = λ p i.
    let ss = c.args.segments.now in
    let P : Segment → Type 0 = λ s. HoldsAt c.args.place (OnSegment s) in
    let held : IsTrue c.any.result ↔ SomeOf P ss =
    some_is P c.any.result ss
    (cases_from_any _ _ _ P (λ s. ¬ (P s)) c.any.ensures.ran (YieldsList-from_slice ss cc)
    (λ x q k. search (rules, tests))
    (λ x q k. search (rules, tests))) in
    let same = some_same P (λ s. OnSegment s p) (on_place c.args.place p i) ss in
    ((λ t. same.0 (held.0 t)), (λ o. held.1 (same.1 o)))
