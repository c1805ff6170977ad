use Rattle.number_laws.proofs.Tests.{says}
use Rattle.grid_plane.proofs.Rectangles.{Decides-rects_meet}
use Rattle.grid_plane.proofs.rect.Rect.meets.Goals as goal

pub returns-clause-meaning : goal.returns-clause-meaning
returns-clause-meaning c = says _ _ c.sides_meet.ensures.value
    (Decides-rects_meet _ _ c.sides_meet.ensures.proper.0 c.sides_meet.ensures.proper.1)
