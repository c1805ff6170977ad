-- A point of half units.
--
-- HoldsAt at h    h holds at the point whose coordinates are half of those of `at`
use Rattle.std.specs.Prelude.{pos, ◌+ℤ◌, ◌*ℤ◌}
use Rattle.plane_terms.specs.HalfPlane.{HalfPlane, Says}
use Rattle.convex_cell.specs.declared.middle.Middle.{Middle}

abbrev pub HoldsAt : Middle → HalfPlane → Type 0
HoldsAt at h = Says h.op (h.a *ℤ at.x +ℤ h.b *ℤ at.y +ℤ h.c *ℤ pos 2)
