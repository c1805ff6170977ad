use Rattle.std.proofs.Common.{rules}
use Rattle.plane_terms.specs.Rectangle.{Rectangle}
use Rattle.grid_plane.proofs.Tests.{apart_below, apart_or_not}
use Rattle.grid_plane.proofs.rect.Rect.sides_meet.Goals as goal

pub returns-then-self-other-2-clause-value : goal.returns-then-self-other-2-clause-value
returns-then-self-other-2-clause-value c =
    let r : Rectangle = record { x0 = c.self.inside.x0; y0 = c.self.inside.y0; x1 = c.self.inside.x1; y1 = c.self.inside.y1 } in
    let s : Rectangle = record { x0 = c.other.inside.x0; y0 = c.other.inside.y0; x1 = c.other.inside.x1; y1 = c.other.inside.y1 } in
    rw (← c.self.view_is, ← c.other.view_is) (apart_below r s (search rules))

pub returns-clause-value : goal.returns-clause-value
returns-clause-value c =
    let r : Rectangle = record { x0 = c.self.inside.x0; y0 = c.self.inside.y0; x1 = c.self.inside.x1; y1 = c.self.inside.y1 } in
    let s : Rectangle = record { x0 = c.other.inside.x0; y0 = c.other.inside.y0; x1 = c.other.inside.x1; y1 = c.other.inside.y1 } in
    rw (← c.self.view_is, ← c.other.view_is) (apart_or_not r s _ (search rules) (search rules) (search rules) (search rules))
