use Rattle.std.proofs.Common.{◌∙◌, ap, arith, List, Vec}
use Rattle.std.specs.Global.{Global}
use Rattle.plane_terms.specs.declared.kind.Kind.TheVariants as kind
use Rattle.shape.specs.Given.{Ring, rings_in, polygons_in}
use Rattle.shape.specs.Kept.{rings_by, parts_by}
use Rattle.shape.proofs.Changed.{written, lengths}
use Rattle.shape.proofs.vertices.closed_parts.Goals as goal

pub returns : goal.returns
returns c =
    let same =
    lengths (λ (p : Vec Ring Global). rings_in p.items) (rings_by kind.Polygon) c.close_parts.new.parts c.deref_mut.result.now
    c.args.parts.items c.close_parts.ensures c.deref_mut.ensures.value in
    ap polygons_in (written c.args.parts.len c.close_parts.new.parts c.args.parts.items same (omega (arith, c.args.parts.ok)))
    ∙ c.close_parts.ensures ∙ ap (λ (ps : List (Vec Ring Global)). parts_by kind.Polygon (polygons_in ps)) c.deref_mut.ensures.value
