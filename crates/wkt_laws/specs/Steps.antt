-- Reading well-known text a token at a time: a table of states.
--
-- Group            whose lists are read: the lines of a MULTILINESTRING, the rings of a POLYGON,
--                  or the rings of a part of a MULTIPOLYGON behind these parts
-- Owner            whose positions are read: a point's, a line's, or those of a list behind these lists of a group
-- State            what was read, and what is expected next
-- step s t         the state behind the token t, or why t does not fit
-- run s ts         the same for tokens one after another
-- IsOpen s         the end was not read
-- More old new text left      the text begins with positions behind commas, new is old and these, and left follows them
-- Passes s text next left     tokens at the front of the text lead from s to next, not past the end, and left follows them
use Rattle.std.specs.Prelude.{ℕ, ℤ, ◌≡◌, List, [], ◌∷◌, ◌++◌, Result, Ok, Err}
use Rattle.plane_terms.specs.Point.{Place}
pub use Rattle.wkt_terms.specs.Faults.{Cause, IsSyntax, IsOffGrid, IsOutOfReach, IsUnsupported}
use Rattle.wkt_terms.specs.Grammar.{Geometry, APoint, ALine, Lines, APolygon, Polygons, position, commas}
use Rattle.wkt_terms.specs.Numerals.{Number, Whole, OffGrid, OutOfReach, NoNumber}
use Rattle.wkt_terms.specs.Tokens.{Word, Point, LineString, MultiLineString, Polygon, MultiPolygon, Modifier, Strange, Token, Open, Close, Comma, Named, Numeral, End, StartsWith}

pub data Group : Type 0 where
  OfLines : Group
  OfPolygon : Group
  OfPart : List (List (List Place)) → Group

pub data Owner : Type 0 where
  OfPoint : Owner
  OfLine : Owner
  OneOf : Group → List (List Place) → Owner

pub data State : Type 0 where
  Start : State
  BeforeParts : State
  BeforeLists : Group → State
  BeforeList : Owner → State
  BeforeX : Owner → List Place → State
  BeforeY : Owner → List Place → ℤ → State
  AfterPosition : Owner → List Place → State
  AfterList : Group → List (List Place) → State
  AfterPart : List (List (List Place)) → State
  Complete : Geometry → State
  Over : Geometry → State

abbrev pub place : ℤ → ℤ → Place
place x y = record { x = x; y = y }

-- a number, where one is expected
abbrev pub with_number : Number → (ℤ → State) → Result State Cause
with_number (Whole z) f = Ok (f z)
with_number OffGrid f = Err IsOffGrid
with_number OutOfReach f = Err IsOutOfReach
with_number NoNumber f = Err IsSyntax

-- the bracket that closes positions; a point has one (of none, never, this is a line)
abbrev pub closed : Owner → List Place → State
closed OfPoint [] = Complete (ALine [])
closed OfPoint (p ∷ ps) = Complete (APoint p)
closed OfLine ps = Complete (ALine ps)
closed (OneOf group lists) ps = AfterList group (lists ++ ps ∷ [])

-- the bracket that closes lists
abbrev pub ended : Group → List (List Place) → State
ended OfLines lists = Complete (Lines lists)
ended OfPolygon lists = Complete (APolygon lists)
ended (OfPart parts) lists = AfterPart (parts ++ lists ∷ [])

abbrev pub after_comma : Owner → List Place → Result State Cause
after_comma OfPoint ps = Err IsSyntax
after_comma OfLine ps = Ok (BeforeX OfLine ps)
after_comma (OneOf group lists) ps = Ok (BeforeX (OneOf group lists) ps)

abbrev pub at_word : Word → Result State Cause
at_word Point = Ok (BeforeList OfPoint)
at_word LineString = Ok (BeforeList OfLine)
at_word MultiLineString = Ok (BeforeLists OfLines)
at_word Polygon = Ok (BeforeLists OfPolygon)
at_word MultiPolygon = Ok BeforeParts
at_word Modifier = Err IsUnsupported
at_word Strange = Err IsUnsupported

-- an opening bracket is expected
abbrev pub at_open : State → Token → Result State Cause
at_open then Open = Ok then
at_open then (Named Modifier) = Err IsUnsupported
at_open then t = Err IsSyntax

abbrev pub step : State → Token → Result State Cause
step Start (Named w) = at_word w
step Start t = Err IsSyntax
step BeforeParts t = at_open (BeforeLists (OfPart [])) t
step (BeforeLists group) t = at_open (BeforeList (OneOf group [])) t
step (BeforeList owner) t = at_open (BeforeX owner []) t
step (BeforeX owner ps) (Numeral n) = with_number n (λ x. BeforeY owner ps x)
step (BeforeX owner ps) t = Err IsSyntax
step (BeforeY owner ps x) (Numeral n) = with_number n (λ y. AfterPosition owner (ps ++ place x y ∷ []))
step (BeforeY owner ps x) t = Err IsSyntax
step (AfterPosition owner ps) Comma = after_comma owner ps
step (AfterPosition owner ps) Close = Ok (closed owner ps)
step (AfterPosition owner ps) (Numeral n) = Err IsUnsupported
step (AfterPosition owner ps) t = Err IsSyntax
step (AfterList group lists) Comma = Ok (BeforeList (OneOf group lists))
step (AfterList group lists) Close = Ok (ended group lists)
step (AfterList group lists) t = Err IsSyntax
step (AfterPart parts) Comma = Ok (BeforeLists (OfPart parts))
step (AfterPart parts) Close = Ok (Complete (Polygons parts))
step (AfterPart parts) t = Err IsSyntax
step (Complete g) End = Ok (Over g)
step (Complete g) t = Err IsSyntax
step (Over g) t = Err IsSyntax

infixl 10 ◌>>=◌
abbrev pub ◌>>=◌ : {A B : Type 0} → Result A Cause → (A → Result B Cause) → Result B Cause
(Ok x) >>= f = f x
(Err e) >>= f = Err e

abbrev pub run : State → List Token → Result State Cause
run s [] = Ok s
run s (t ∷ ts) = step s t >>= λ next. run next ts

abbrev pub IsOpen : State → Type 0
IsOpen (Over g) = ⊥
IsOpen s = Unit {0}

pub record More (old new : List Place) (text left : List ℕ) : Type 0 where
  pub others : List Place
  pub added : new ≡ old ++ others
  pub begins : StartsWith text (commas position others) left

pub record Passes (s : State) (text : List ℕ) (next : State) (left : List ℕ) : Type 0 where
  pub done : List Token
  pub begins : StartsWith text done left
  pub ran : run s done ≡ Ok next
  pub unended : IsOpen s → IsOpen next
