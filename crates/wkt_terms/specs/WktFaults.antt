-- Why a text is not read.
--
-- IsWktFault text e      the first token that does not fit, its cause and its place; where the text spells a geometry, its first ring that
--                        is
--                        not closed; where its rings are closed, the first fault of its shape. Out of memory may come at any time.
use Rattle.std.specs.Prelude.{ℕ, ◌≡◌, List}
use Rattle.plane_terms.specs.ShapeFaults.{IsFault, IsFirstOf}
use Rattle.plane_terms.specs.declared.shape_fault.ShapeFault.TheVariants as shape
use Rattle.wkt_terms.specs.Faults.{FirstFault, IsSyntax, IsOffGrid, IsOutOfReach, IsUnsupported}
use Rattle.wkt_terms.specs.Grammar.{Geometry, IsWkt}
use Rattle.wkt_terms.specs.Shapes.{rings_in, shape_in, AreClosed, IsOpen}
use Rattle.wkt_terms.specs.declared.wkt_fault.WktFault.{WktFault}
use Rattle.wkt_terms.specs.declared.wkt_fault.WktFault.TheVariants.{Syntax, OffGrid, OutOfReach, Unsupported, NotClosed, Invalid, NoMemory}

abbrev pub IsWktFault : List ℕ → WktFault → Type 0
IsWktFault text (Syntax at) = FirstFault text at IsSyntax
IsWktFault text (OffGrid at) = FirstFault text at IsOffGrid
IsWktFault text (OutOfReach at) = FirstFault text at IsOutOfReach
IsWktFault text (Unsupported at) = FirstFault text at IsUnsupported
IsWktFault text (NotClosed ring) = (g : Geometry) × IsWkt text g × IsFirstOf IsOpen (rings_in g) ring
IsWktFault text (Invalid f) = (g : Geometry) × IsWkt text g × (AreClosed g × (IsFault (shape_in g) f × (f ≡ shape.NoMemory → ⊥)))
IsWktFault text NoMemory = Unit {0}
