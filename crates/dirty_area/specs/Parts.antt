-- What dirt is, and what two rectangles have in common.
--
-- IsDirt d             rectangles of the grid, of which none lies in another
-- IsCommon m r w       r and w meet, and m is the rectangle that both have in common
-- IsApart r w s        s lies beside the window w, and neither of r and s lies in the other
-- AreNear d r ms       ms are the rectangles of d that meet r
-- IsSplit d ps P       ps are of d, and of the others of d P holds
-- IsOther xs w s       s is of xs and lies beside the window w
-- IsPartway            rest is still to come of xs; left and met are what those before it leave and meet, and round are the pieces
use Rattle.std.specs.Prelude.{◌≡◌, ◌↔◌, ◌⊎◌, true, false, List, ◌++◌, filter, Contains}
use Rattle.plane_terms.specs.Lists.{Every}
use Rattle.plane_terms.specs.Rectangle.{Rectangle, IsRectangle, RectsMeet, part_of, rects_meet}
use Rattle.plane_terms.specs.Dirt.{AreLoose, IsLoose, cut_from, cut_dirt}

pub record IsDirt (d : List Rectangle) : Type 0 where
  pub loose : IsLoose d
  pub on_grid : Every IsRectangle d

pub record IsCommon (m r w : Rectangle) : Type 0 where
  pub part : m ≡ part_of r w
  pub meet : RectsMeet r w

pub record IsApart (r w s : Rectangle) : Type 0 where
  pub beside : rects_meet s w ≡ false
  pub loose : AreLoose r s

abbrev pub AreNear : List Rectangle → Rectangle → List Rectangle → Type 0
AreNear d r ms = (s : Rectangle) → Contains ms s ↔ (Contains d s × (rects_meet s r ≡ true))

pub record IsSplit (d ps : List Rectangle) (P : Rectangle → Type 0) : Type 0 where
  pub within : (s : Rectangle) → Contains ps s → Contains d s
  pub others : (s : Rectangle) → Contains d s → Contains ps s ⊎ P s

abbrev pub IsOther : List Rectangle → Rectangle → Rectangle → Type 0
IsOther xs w s = (rects_meet s w ≡ false) × Contains xs s

pub record IsPartway (xs rest : List Rectangle) (w : Rectangle) (left met round : List Rectangle) : Type 0 where
  pub left_rest : cut_from left rest w ≡ cut_dirt xs w
  pub met_rest : met ++ filter (λ s. rects_meet s w) rest ≡ filter (λ s. rects_meet s w) xs
  pub come : IsDirt rest
  pub of : Every (Contains xs) rest
  pub apart : Every (λ x. rects_meet x w ≡ false → Every (λ s. AreLoose s x) left) rest
  pub split : IsSplit left round (IsOther xs w)
  pub kept : IsDirt left
  pub touch : Every (λ s. rects_meet s w ≡ true) round
