use Rattle.std.proofs.Common.{◌++◌}
use Rattle.plane_terms.specs.HalfPlane.{Holds}
use Rattle.convex_cell.proofs.Both.{all_of_both}
use Rattle.convex_cell.proofs.Pieces.{held_in}
use Rattle.convex_cell.proofs.bounds.tightened.Goals as goal

pub returns : goal.returns
returns c =
    let a = c.args in
    let r = c.requires in record {
      x_fits = r.x_fits;
      y_fits = c.common_span.ensures.fits;
      x = r.x;
      y = λ p m.
          let k = (all_of_both (λ h. Holds h p) a.first.now a.second.now).0 ((held_in (a.first.now ++ a.second.now) p).1 m) in
          c.common_span.ensures.sound p.y p.w (r.y p m) (c.common_span-y.ensures.sound p.y p.w
          (c.y_span_over.ensures.sound p (r.x p m) k.0) (c.y_span_over-2.ensures.sound p (r.x p m) k.1));
    }
