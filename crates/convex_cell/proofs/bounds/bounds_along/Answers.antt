use Rattle.std.proofs.lemmas.List.Elements.{All-from_recursion}
use Rattle.plane_terms.specs.HalfPlane.{Holds}
use Rattle.convex_cell.proofs.bounds.bounds_along.Goals as goal

pub returns : goal.returns
returns c = record {
  x_fits = c.requires.fits;
  y_fits = c.y_span_over.ensures.fits;
  x = c.requires.along;
  y = λ p m. c.y_span_over.ensures.sound p (c.requires.along p m) (All-from_recursion (λ h. Holds h p) c.args.halves.now m);
}
