use Rattle.grid_plane.proofs.Rectangles.{joined}
use Rattle.grid_plane.proofs.rect.Rect.join.Goals as goal

pub returns-clause-meaning : goal.returns-clause-meaning
returns-clause-meaning c = rw c.sides_join.ensures (joined _ _)
