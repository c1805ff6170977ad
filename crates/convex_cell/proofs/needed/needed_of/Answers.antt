use Rattle.std.proofs.lemmas.List.Elements.{recursion_from_All}
use Rattle.plane_terms.specs.HalfPlane.{Holds}
use Rattle.convex_cell.proofs.needed.needed_of.Goals as goal

pub framed-requires-clause-round : goal.framed-requires-clause-round
framed-requires-clause-round c = λ p a.
    let m = recursion_from_All (λ h. Holds h p) c.args.cell.now a in record {
      along = c.in-Some.ensures.sound p.x p.w (c.requires.x p m);
      up = c.in-Some-reach_of.ensures.sound p.y p.w (c.requires.y p m);
    }
