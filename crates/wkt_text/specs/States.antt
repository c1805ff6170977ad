-- What the states of the code stand for.
--
-- geometry_of, group_of, owner_of, state_of, cause_of     the value of the table that the code's value is
-- Gives view r read                the result r, seen by view, is what reading gives, unless memory ran out
-- number_at t                      the number that a token gives where one is expected
use Rattle.std.specs.Prelude.{ℤ, ◌≡◌, Result, Ok, Err}
use Rattle.wkt_terms.specs.Grammar as grammar
use Rattle.wkt_terms.specs.Numerals as numerals
use Rattle.wkt_terms.specs.Tokens as tokens
use Rattle.shape.specs.Given.{rings_in as lists_of, polygons_in as parts_of}
use Rattle.wkt_laws.specs.Steps as steps
use Rattle.wkt_text.specs.declared.stop.Cause.{Cause}
use Rattle.wkt_text.specs.declared.stop.Cause.TheVariants as cause
use Rattle.wkt_text.specs.declared.stop.Stop.{Stop}
use Rattle.wkt_text.specs.declared.stop.Stop.TheVariants as stop
use Rattle.wkt_text.specs.declared.geometry.Geometry.{Geometry}
use Rattle.wkt_text.specs.declared.geometry.Geometry.TheVariants as geometry
use Rattle.wkt_text.specs.declared.state.Group.{Group}
use Rattle.wkt_text.specs.declared.state.Group.TheVariants as group
use Rattle.wkt_text.specs.declared.state.Owner.{Owner}
use Rattle.wkt_text.specs.declared.state.Owner.TheVariants as owner
use Rattle.wkt_text.specs.declared.state.State.{State}
use Rattle.wkt_text.specs.declared.state.State.TheVariants as state

abbrev pub geometry_of : Geometry → grammar.Geometry
geometry_of (geometry.Point p) = grammar.APoint p
geometry_of (geometry.Line ps) = grammar.ALine ps.items
geometry_of (geometry.Lines lists) = grammar.Lines (lists_of lists.items)
geometry_of (geometry.Polygon rings) = grammar.APolygon (lists_of rings.items)
geometry_of (geometry.Polygons parts) = grammar.Polygons (parts_of parts.items)

abbrev pub group_of : Group → steps.Group
group_of group.Lines = steps.OfLines
group_of group.Polygon = steps.OfPolygon
group_of (group.Part parts) = steps.OfPart (parts_of parts.items)

abbrev pub owner_of : Owner → steps.Owner
owner_of owner.Point = steps.OfPoint
owner_of owner.Line = steps.OfLine
owner_of (owner.OneOf g lists) = steps.OneOf (group_of g) (lists_of lists.items)

abbrev pub state_of : State → steps.State
state_of state.Start = steps.Start
state_of state.BeforeParts = steps.BeforeParts
state_of (state.BeforeLists g) = steps.BeforeLists (group_of g)
state_of (state.BeforeList o) = steps.BeforeList (owner_of o)
state_of (state.BeforeX o ps) = steps.BeforeX (owner_of o) ps.items
state_of (state.BeforeY o ps x) = steps.BeforeY (owner_of o) ps.items x
state_of (state.AfterPosition o ps) = steps.AfterPosition (owner_of o) ps.items
state_of (state.AfterList g lists) = steps.AfterList (group_of g) (lists_of lists.items)
state_of (state.AfterPart parts) = steps.AfterPart (parts_of parts.items)
state_of (state.Complete g) = steps.Complete (geometry_of g)
state_of (state.Over g) = steps.Over (geometry_of g)

abbrev pub cause_of : Cause → steps.Cause
cause_of cause.Syntax = steps.IsSyntax
cause_of cause.OffGrid = steps.IsOffGrid
cause_of cause.OutOfReach = steps.IsOutOfReach
cause_of cause.Unsupported = steps.IsUnsupported

abbrev pub Fails : {Y : Type 0} → Stop → Result Y steps.Cause → Type 0
Fails stop.NoMemory read = Unit {0}
Fails (stop.Refused c) read = read ≡ Err (cause_of c)

abbrev pub Gives : {X Y : Type 0} → (X → Y) → Result X Stop → Result Y steps.Cause → Type 0
Gives view (Ok x) read = read ≡ Ok (view x)
Gives view (Err e) read = Fails e read

abbrev pub number_at : tokens.Token → Result ℤ steps.Cause
number_at (tokens.Numeral (numerals.Whole z)) = Ok z
number_at (tokens.Numeral numerals.OffGrid) = Err steps.IsOffGrid
number_at (tokens.Numeral numerals.OutOfReach) = Err steps.IsOutOfReach
number_at (tokens.Numeral numerals.NoNumber) = Err steps.IsSyntax
number_at t = Err steps.IsSyntax

abbrev pub IsNumberAt : Result ℤ Cause → tokens.Token → Type 0
IsNumberAt (Ok z) t = number_at t ≡ Ok z
IsNumberAt (Err c) t = number_at t ≡ Err (cause_of c)
