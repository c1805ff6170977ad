-- The rectangle of a window, and why a window has none.
--
-- IsWindow v w           w is the rectangle of the window v: the whole grid, or the rectangle of the grid that has its four numbers
-- IsWindowFault v r      r says why v has none: the first of its numbers that is beyond the reach, counted from 0; or, where all are within
--                        it, that a greatest coordinate is below its least one
use Rattle.std.specs.Prelude.{◌≡◌}
use Rattle.plane_terms.specs.Lists.{Every}
use Rattle.plane_terms.specs.Point.{InReach}
use Rattle.plane_terms.specs.Rectangle.{Rectangle, IsRectangle, IsProper, IsFirstOut, numbers_of, whole_grid}
use Rattle.line_terms.specs.Commands.{Window, All, Numbers}
use Rattle.line_terms.specs.declared.line_refusal.LineRefusal.{LineRefusal}
use Rattle.line_terms.specs.declared.line_refusal.LineRefusal.TheVariants.{OutOfReach, Reversed}

abbrev pub IsWindow : Window → Rectangle → Type 0
IsWindow All w = w ≡ whole_grid
IsWindow (Numbers r) w = (w ≡ r) × IsRectangle r

abbrev pub IsWindowFault : Window → LineRefusal → Type 0
IsWindowFault (Numbers r) (OutOfReach at) = IsFirstOut at (numbers_of r)
IsWindowFault (Numbers r) Reversed = Every InReach (numbers_of r) × ¬ (IsProper r)
IsWindowFault v other = ⊥
