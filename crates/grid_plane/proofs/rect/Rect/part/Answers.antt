use Rattle.grid_plane.proofs.Rectangles.{parted}
use Rattle.grid_plane.proofs.rect.Rect.part.Goals as goal

pub returns-then-meets-clause-value : goal.returns-then-meets-clause-value
returns-then-meets-clause-value c = (c.sides_part.ensures, c.meets.ensures.meaning.0 c.if-meets.true)

pub returns-then-meets-clause-meaning : goal.returns-then-meets-clause-meaning
returns-then-meets-clause-meaning c = rw c.sides_part.ensures (parted _ _)

pub sides_part-requires : goal.sides_part-requires
sides_part-requires c = c.meets.ensures.meaning.0 c.if-meets.true
