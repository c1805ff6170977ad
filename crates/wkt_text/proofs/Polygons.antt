-- What the parts of a text make.
--
-- polygon_from       the polygon of parts whose rings are closed
-- lines_whole        the line of parts
use Rattle.std.proofs.Common.{◌≡◌, List, [], ◌∷◌, map, Result, Ok, Err, MatchResult, refl, sym, ap, subst}
use Rattle.plane_terms.specs.Point.{Place}
use Rattle.plane_terms.specs.Shape.{Shape, IsShape, shape_of}
use Rattle.plane_terms.specs.declared.kind.Kind.TheVariants as kind
use Rattle.shape.specs.Given.{lines_in}
use Rattle.wkt_terms.specs.Grammar.{Lines}
use Rattle.shape.specs.Given.{Ring, rings_in as lists_of}
use Rattle.wkt_text.specs.Faults.{closed_rings, polygon_by, IsShapeFault, IsPolygonFault}
use Rattle.wkt_terms.specs.declared.wkt_fault.WktFault.{WktFault}
use Rattle.wkt_terms.specs.declared.wkt_fault.WktFault.TheVariants.{Syntax, OffGrid, OutOfReach, Unsupported, NotClosed, Invalid, NoMemory}
use Rattle.wkt_text.proofs.Results.{IsMade}

abbrev pub IsMadeBy : Shape → Result Shape WktFault → Type 0
IsMadeBy s r = MatchResult r (λ t. (t ≡ s) × IsShape t) (λ e. IsShapeFault s e)

polygon_fault : (parts : List (List (List Place))) (e : WktFault) → closed_rings parts → IsShapeFault (polygon_by parts) e
    → IsPolygonFault parts e
polygon_fault parts (Syntax at) c h = absurd h
polygon_fault parts (OffGrid at) c h = absurd h
polygon_fault parts (OutOfReach at) c h = absurd h
polygon_fault parts (Unsupported at) c h = absurd h
polygon_fault parts (NotClosed ring) c h = absurd h
polygon_fault parts (Invalid f) c h = (c, h)
polygon_fault parts NoMemory c h = tt

pub polygon_from : (parts : List (List (List Place))) (r : Result Shape WktFault) → closed_rings parts → IsMadeBy (polygon_by parts) r
    → MatchResult r (λ s. closed_rings parts × (s ≡ polygon_by parts) × IsShape s) (λ e. IsPolygonFault parts e)
polygon_from parts (Ok s) c h = (c, h.0, h.1)
polygon_from parts (Err e) c h = polygon_fault parts e c h

-- ---- lines

pub lines_given : (lists : List Ring) → map (λ ps. ps ∷ []) (lists_of lists) ≡ lines_in lists
lines_given [] = refl
lines_given (ring ∷ lists) = ap (λ t. (ring.items ∷ []) ∷ t) (lines_given lists)

line_fault : (lists : List Ring) (e : WktFault) → IsShapeFault (shape_of kind.Line (map (λ ps. ps ∷ []) (lists_of lists))) e
    → IsMade (Lines (lists_of lists)) (Err e)
line_fault lists (Syntax at) h = absurd h
line_fault lists (OffGrid at) h = absurd h
line_fault lists (OutOfReach at) h = absurd h
line_fault lists (Unsupported at) h = absurd h
line_fault lists (NotClosed ring) h = absurd h
line_fault lists (Invalid f) h = (tt, h)
line_fault lists NoMemory h = tt

lines_by : (lists : List Ring) (r : Result Shape WktFault) → IsMadeBy (shape_of kind.Line (map (λ ps. ps ∷ []) (lists_of lists))) r
    → IsMade (Lines (lists_of lists)) r
lines_by lists (Ok s) h = (tt, h.0, h.1)
lines_by lists (Err e) h = line_fault lists e h

pub lines_whole : (lists : List Ring) (r : Result Shape WktFault) → IsMadeBy (shape_of kind.Line (lines_in lists)) r
    → IsMade (Lines (lists_of lists)) r
lines_whole lists r h =
    lines_by lists r (subst (λ (ps : List (List (List Place))). IsMadeBy (shape_of kind.Line ps) r) (sym (lines_given lists)) h)
