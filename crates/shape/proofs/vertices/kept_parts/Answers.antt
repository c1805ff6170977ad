use Rattle.std.proofs.Common.{◌∙◌, ap, arith, List}
use Rattle.plane_terms.specs.Shape.{ring_by}
use Rattle.plane_terms.specs.declared.kind.Kind.TheVariants as kind
use Rattle.shape.specs.Given.{Ring, rings_in}
use Rattle.shape.specs.Kept.{rings_by}
use Rattle.shape.proofs.Changed.{written, lengths}
use Rattle.shape.proofs.vertices.kept_parts.Goals as goal

pub returns : goal.returns
returns c =
    let same =
    lengths (λ (r : Ring). r.items) (ring_by kind.Line) c.keep_parts.new.parts c.deref_mut.result.now c.args.parts.items
    c.keep_parts.ensures c.deref_mut.ensures.value in
    ap rings_in (written c.args.parts.len c.keep_parts.new.parts c.args.parts.items same (omega (arith, c.args.parts.ok)))
    ∙ c.keep_parts.ensures ∙ ap (λ (rs : List Ring). rings_by kind.Line (rings_in rs)) c.deref_mut.ensures.value
