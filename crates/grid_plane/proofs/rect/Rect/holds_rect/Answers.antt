use Rattle.number_laws.proofs.Tests.{says}
use Rattle.grid_plane.proofs.Rectangles.{Decides-is_within}
use Rattle.grid_plane.proofs.rect.Rect.holds_rect.Goals as goal

pub returns-clause-meaning : goal.returns-clause-meaning
returns-clause-meaning c = says _ _ c.is_round.ensures (Decides-is_within _ _)
