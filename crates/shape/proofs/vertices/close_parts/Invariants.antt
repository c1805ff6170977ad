use Rattle.std.proofs.Common.{Vec}
use Rattle.std.specs.Global.{Global}
use Rattle.plane_terms.specs.declared.kind.Kind.TheVariants as kind
use Rattle.shape.specs.Given.{Ring, rings_in}
use Rattle.shape.specs.Kept.{rings_by}
use Rattle.shape.proofs.Changed.{Changed}
use Rattle.shape.proofs.vertices.close_parts.Given as goal

abbrev pub invariant-loop-part : goal.invariant-loop-part
invariant-loop-part l = Changed (λ (p : Vec Ring Global). rings_in p.items) (rings_by kind.Polygon) l.part-index l.parts l.initial.parts
