-- The lines of commands, and the faults of other lines.
--
-- Holds s w q c          s holds of the command's shape, w of its window, and q of each of its places, where it has them
-- IsSpelling line c      the line is the pieces of the command, with a text of its shape and its window as it is written; where it has none
--                        these are free; and its places are within the reach
-- IsCommandLine line c   so, and the line is no longer than a line may be
-- IsFaultOf f r          what the form says is no command, and r says why: its shape's text is none, with the first fault of it;
--                        or its window is none; or the first of its places' numbers that is beyond the reach, counted from 0
-- IsLineFault line r     the line is no command's, and r says why: it is too long, whatever it holds; else it has no form; else as its
--                        form's fault
--
-- A line has one command at most, and a line that has one has no fault. Source: own.
use Rattle.std.specs.Prelude.{◌≡◌, ◌⊎◌, ◌<◌, ◌≤◌, ℕ, ℤ, List, [], ◌∷◌, ◌++◌, length}
use Rattle.plane_terms.specs.Point.{Place, IsInReach}
use Rattle.plane_terms.specs.Rectangle.{IsFirstOut}
use Rattle.wkt_terms.specs.Shapes.{IsShapeText}
use Rattle.wkt_terms.specs.WktFaults.{IsWktFault}
use Rattle.wkt_terms.specs.declared.wkt_fault.WktFault.TheVariants as text
use Rattle.line_terms.specs.declared.line_refusal.LineRefusal.{LineRefusal}
use Rattle.line_terms.specs.declared.line_refusal.LineRefusal.TheVariants.{NotALine, TooLong, OffGrid, OutOfReach, Unsupported, NotClosed, Invalid}
use Rattle.line_terms.specs.Commands.{CommandOf, Command, Form, Window, Add, Change, Snap, Create, Move, Validate}
use Rattle.line_terms.specs.Forms.{HasForm, IsLine, pieces, Rest, written}
use Rattle.line_terms.specs.Windows.{IsWindow, IsWindowFault}

abbrev pub Holds : {S W : Type 0} → (S → Type 0) → (W → Type 0) → (Place → Type 0) → CommandOf S W → Type 0
Holds s w q (Add e c shape) = s shape
Holds s w q (Change e h shape) = s shape
Holds s w q (Snap e r h i to) = q to
Holds s w q (Create e r h at) = q at
Holds s w q (Move e from to) = q from × q to
Holds s w q (Validate window) = w window
Holds s w q other = Unit {0}

pub record IsSpelling (line : List ℕ) (c : Command) : Type 0 where
  pub text : List ℕ
  pub window : Window
  pub spelled : IsLine line (pieces (λ _. Rest text) (λ _. written window) c)
  pub meant : Holds (IsShapeText text) (IsWindow window) IsInReach c

abbrev pub IsCommandLine : List ℕ → Command → Type 0
IsCommandLine line c = (length line ≤ 1048576) × IsSpelling line c

-- ---- faults
abbrev pub IsTextRefusal : List ℕ → LineRefusal → Type 0
IsTextRefusal t NotALine = (at : ℕ) × IsWktFault t (text.Syntax at)
IsTextRefusal t (OffGrid at) = IsWktFault t (text.OffGrid at)
IsTextRefusal t (OutOfReach at) = IsWktFault t (text.OutOfReach at)
IsTextRefusal t (Unsupported at) = IsWktFault t (text.Unsupported at)
IsTextRefusal t (NotClosed ring) = IsWktFault t (text.NotClosed ring)
IsTextRefusal t (Invalid fault) = IsWktFault t (text.Invalid fault)
IsTextRefusal t other = ⊥

abbrev pub coordinates : Place → List ℤ
coordinates q = q.x ∷ q.y ∷ []

abbrev pub IsPlaceFault : List ℤ → LineRefusal → Type 0
IsPlaceFault ns (OutOfReach at) = IsFirstOut at ns
IsPlaceFault ns other = ⊥

abbrev pub IsFaultOf : Form → LineRefusal → Type 0
IsFaultOf (Add e c t) r = IsTextRefusal t r
IsFaultOf (Change e h t) r = IsTextRefusal t r
IsFaultOf (Snap e n h i to) r = IsPlaceFault (coordinates to) r
IsFaultOf (Create e n h at) r = IsPlaceFault (coordinates at) r
IsFaultOf (Move e from to) r = IsPlaceFault (coordinates from ++ coordinates to) r
IsFaultOf (Validate v) r = IsWindowFault v r
IsFaultOf other r = ⊥

abbrev pub HasFaultyForm : List ℕ → LineRefusal → Type 0
HasFaultyForm line r = (f : Form) × HasForm line f × IsFaultOf f r

abbrev pub IsLineFault : List ℕ → LineRefusal → Type 0
IsLineFault line r =
    ((1048576 < length line) × (r ≡ TooLong)) ⊎
    ((length line ≤ 1048576) × (((f : Form) → ¬ (HasForm line f)) × (r ≡ NotALine) ⊎ HasFaultyForm line r))
