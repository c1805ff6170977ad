use Rattle.std.proofs.Common.{◌∙◌, sym}
use Rattle.std.proofs.lemmas.Bool.{eqb-true, eqb-false}
use Rattle.feature_store.proofs.Lists.{exact, here, gap_other}
use Rattle.feature_store.proofs.slots.is_at.Goals as goal

pub returns-then-place-slots-clause-here : goal.returns-then-place-slots-clause-here
returns-then-place-slots-clause-here c = λ t.
    let s = c.index-slots-place.result in
    let same = sym c.handle.ensures ∙ eqb-true c.handle.result c.args.handle t in
    here c.args.handle c.args.slots.now c.args.place s
    (exact c.args.handle c.args.slots.now c.args.place s c.requires c.if-place-slots.true c.index-slots-place.is same)
    c.if-place-slots.true c.index-slots-place.is same

pub returns-then-place-slots-clause-gap : goal.returns-then-place-slots-clause-gap
returns-then-place-slots-clause-gap c = λ f p. gap_other c.args.handle c.args.slots.now c.args.place c.index-slots-place.result c.requires p
    c.if-place-slots.true c.index-slots-place.is (λ e. eqb-false c.handle.result c.args.handle f (c.handle.ensures ∙ e))
