use Rattle.std.proofs.Common.{◌∙◌, ap, sym, arith, Vec, get_or, List}
use Rattle.std.specs.Global.{Global}
use Rattle.std.specs.Vec.{with_items}
use Rattle.plane_terms.specs.Shape.{ring_by}
use Rattle.plane_terms.specs.declared.kind.Kind.TheVariants as kind
use Rattle.shape.specs.Given.{Ring, rings_in}
use Rattle.shape.specs.Kept.{rings_by}
use Rattle.shape.proofs.Changed.{changed_more, changed_all, written, lengths}
use Rattle.shape.proofs.vertices.close_parts.Goals as goal

pub loop-part-preserved : goal.loop-part-preserved
loop-part-preserved c =
    let p = get_or c.loop-part.parts c.loop-part.part-index c.part-item.result in
    let same =
    lengths (λ (r : Ring). r.items) (ring_by kind.Polygon) c.close_rings.new.rings c.deref_mut.result.now p.items c.close_rings.ensures
    c.deref_mut.ensures.value in
    let whole = ap rings_in (written p.len c.close_rings.new.rings p.items same (omega (arith, p.ok))) in
    changed_more (λ (p : Vec Ring Global). rings_in p.items) (rings_by kind.Polygon) c.loop-part.part-index c.loop-part.parts
    c.args.parts.now c.part-item.result (with_items p c.close_rings.new.rings) c.loop-part.invariant
    (omega (arith, c.loop-part-test.true, c.loop-part.auto.parts)) c.part-item.is (whole ∙ c.close_rings.ensures
    ∙ ap (λ (rs : List Ring). rings_by kind.Polygon (rings_in rs)) c.deref_mut.ensures.value
    ∙ ap (λ (q : Vec Ring Global). rings_by kind.Polygon (rings_in q.items)) (sym c.part-item.is))

pub returns : goal.returns
returns c =
    changed_all (λ (p : Vec Ring Global). rings_in p.items) (rings_by kind.Polygon) c.loop-part.part-index c.loop-part.parts
    c.args.parts.now c.loop-part.invariant (omega (arith, c.loop-part-test.false, c.loop-part.auto.parts))
