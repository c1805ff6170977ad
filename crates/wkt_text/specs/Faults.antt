-- Why a text is not read.
--
-- IsShapeFault s e       the parts of s make no shape, and e carries the first fault that applies; out of memory may come at any time
-- IsPolygonFault ps e    the same of the parts ps of a polygon as they are written, or e is the number of the first ring that is not closed
-- IsWholeFault g e       the same of a geometry
use Rattle.std.specs.Prelude.{◌≡◌, true, List}
use Rattle.plane_terms.specs.Lists.{Every}
use Rattle.plane_terms.specs.Point.{Place}
use Rattle.plane_terms.specs.Shape.{Shape, shape_of}
use Rattle.plane_terms.specs.declared.kind.Kind.TheVariants as kind
use Rattle.plane_terms.specs.ShapeFaults.{IsFault, IsFirstOf}
use Rattle.shape.specs.Given.{all_rings}
use Rattle.plane_terms.specs.declared.shape_fault.ShapeFault.TheVariants as shape
use Rattle.wkt_terms.specs.Grammar.{Geometry}
use Rattle.wkt_terms.specs.Shapes.{is_closed, rings_in, shape_in, AreClosed, IsOpen}
use Rattle.wkt_terms.specs.declared.wkt_fault.WktFault.{WktFault}
use Rattle.wkt_terms.specs.declared.wkt_fault.WktFault.TheVariants.{Syntax, OffGrid, OutOfReach, Unsupported, NotClosed, Invalid, NoMemory}

abbrev pub IsShapeFault : Shape → WktFault → Type 0
IsShapeFault s (Syntax at) = ⊥
IsShapeFault s (OffGrid at) = ⊥
IsShapeFault s (OutOfReach at) = ⊥
IsShapeFault s (Unsupported at) = ⊥
IsShapeFault s (NotClosed ring) = ⊥
IsShapeFault s (Invalid f) = IsFault s f × (f ≡ shape.NoMemory → ⊥)
IsShapeFault s NoMemory = Unit {0}

abbrev pub closed_rings : List (List (List Place)) → Type 0
closed_rings parts = Every (λ ring. is_closed ring ≡ true) (all_rings parts)

abbrev pub polygon_by : List (List (List Place)) → Shape
polygon_by parts = shape_of kind.Polygon parts

abbrev pub IsPolygonFault : List (List (List Place)) → WktFault → Type 0
IsPolygonFault parts (Syntax at) = ⊥
IsPolygonFault parts (OffGrid at) = ⊥
IsPolygonFault parts (OutOfReach at) = ⊥
IsPolygonFault parts (Unsupported at) = ⊥
IsPolygonFault parts (NotClosed ring) = IsFirstOf IsOpen (all_rings parts) ring
IsPolygonFault parts (Invalid f) = closed_rings parts × IsShapeFault (polygon_by parts) (Invalid f)
IsPolygonFault parts NoMemory = Unit {0}

abbrev pub IsWholeFault : Geometry → WktFault → Type 0
IsWholeFault g (Syntax at) = ⊥
IsWholeFault g (OffGrid at) = ⊥
IsWholeFault g (OutOfReach at) = ⊥
IsWholeFault g (Unsupported at) = ⊥
IsWholeFault g (NotClosed ring) = IsFirstOf IsOpen (rings_in g) ring
IsWholeFault g (Invalid f) = AreClosed g × IsShapeFault (shape_in g) (Invalid f)
IsWholeFault g NoMemory = Unit {0}
