-- How rectangles of an index stand to one that is asked about.
--
-- stands k s r      the test whether s stands to r as k says
-- is_found k r p    the test whether the placed rectangle p meets r and stands to it as k says; touching is meeting
use Rattle.std.specs.Prelude.{Bool, ◌&&◌, ◌||◌}
use Rattle.plane_terms.specs.Rectangle.{Rectangle, is_within, rects_meet}
use Rattle.grid_index.specs.declared.placed.Placed.{Placed}
use Rattle.grid_index.specs.declared.relation.Relation.{Relation}
use Rattle.grid_index.specs.declared.relation.Relation.TheVariants.{Meets, Holds, IsNested}

abbrev pub stands : Relation → Rectangle → Rectangle → Bool
stands Meets s r = rects_meet s r
stands Holds s r = is_within r s
stands IsNested s r = is_within r s || is_within s r

abbrev pub is_found : Relation → Rectangle → Placed → Bool
is_found k r p = rects_meet r p.rect && stands k p.rect r
