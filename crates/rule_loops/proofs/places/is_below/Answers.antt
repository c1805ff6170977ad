use Rattle.std.proofs.Common.{◌≡◌, pos, arith, sym, ap, ◌∙◌, to_z, of_z, w8}
use Rattle.std.specs.Prelude.{int_lt}
use Rattle.std.proofs.lemmas.Int.{ints}
use Rattle.std.proofs.lemmas.Bool.{false≢true}
use Rattle.plane_terms.specs.Point.{Place, point_at}
use Rattle.cell_laws.proofs.Counted.{counted, not_counted}
use Rattle.cell_laws.proofs.OnLine.{at_itself}
use Rattle.rule_loops.proofs.places.is_below.Goals as goal

pub returns-then-is_from_to : goal.returns-then-is_from_to
returns-then-is_from_to c =
    let h = c.is_from_to.ensures.0 c.if-is_from_to.true in
    let low = ap (λ (q : Place). q.x) c.lo.ensures.value in
    let high = ap (λ (q : Place). q.x) c.hi.ensures.value in
    let side : to_z w8 (of_z w8 c.side.result) ≡ c.side.result = omega (arith, ints) in
    ap (int_lt (pos 0)) (side ∙ c.side.ensures) ∙ counted c.args.segment.now c.args.place (point_at c.args.place) (at_itself c.args.place)
    (omega (arith, ints, h.0, low), omega (arith, ints, h.1, high))

pub returns-else-is_from_to : goal.returns-else-is_from_to
returns-else-is_from_to c =
    let low = ap (λ (q : Place). q.x) c.lo.ensures.value in
    let high = ap (λ (q : Place). q.x) c.hi.ensures.value in
    c.if-is_from_to.false ∙ sym (not_counted c.args.segment.now c.args.place (point_at c.args.place) (at_itself c.args.place)
    (λ h. false≢true (sym c.if-is_from_to.false ∙ c.is_from_to.ensures.1 (omega (arith, ints, h.0, low), omega (arith, ints, h.1, high)))))
