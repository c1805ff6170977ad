-- Why a line is refused, and the words of each refusal.
--
-- Refusal            a fault of the line's own; what is wrong with the editor's session; the handle is held by the session of this name;
--                    there is nothing to fix so; a shape that the fix would make is none; that a session is open; that the version's name
--                    is taken, the versions are full, there is none of the name; that it is stale, at this handle first; that there are
--                    versions beside `default`; or why the project is not changed
-- shape_fault_text f     what is wrong with a shape, and the numbers that say where
-- cause_code c       the code of a cause
-- refusal_text r     the code, and what stands behind it
--
-- Source: own.
use Rattle.std.specs.Prelude.{ℕ, List, [], ◌∷◌, codes, decimal}
use Rattle.text_terms.specs.Wkt.{◌⧺◌}
use Rattle.topology_terms.specs.declared.cause.Cause.{Cause}
use Rattle.topology_terms.specs.declared.cause.Cause.TheVariants as cause
use Rattle.plane_terms.specs.declared.shape_fault.ShapeFault.{ShapeFault}
use Rattle.plane_terms.specs.declared.shape_fault.ShapeFault.TheVariants.{TooFew, TooMany, Cross, Along, NoMemory}
use Rattle.line_terms.specs.declared.line_refusal.LineRefusal.{LineRefusal}
use Rattle.line_terms.specs.declared.line_refusal.LineRefusal.TheVariants.{NotALine, TooLong, OffGrid, OutOfReach, Unsupported, NotClosed, Invalid, Reversed}

pub data Refusal : Type 0 where
  Line : LineRefusal → Refusal
  SessionOpen : Refusal
  SessionsFull : Refusal
  NoSession : Refusal
  HeldBy : List ℕ → Refusal
  NothingToUndo : Refusal
  NothingToRedo : Refusal
  NothingToFix : Refusal
  BadShape : ShapeFault → Refusal
  SessionsOpen : Refusal
  VersionTaken : Refusal
  VersionsFull : Refusal
  NoVersion : Refusal
  Stale : ℕ → Refusal
  VersionsThere : Refusal
  Change : Cause → Refusal

abbrev pub with_number : List ℕ → ℕ → List ℕ
with_number word n = word ⧺ 32 ∷ decimal n

abbrev pub with_pair : List ℕ → ℕ → ℕ → List ℕ
with_pair word i j = word ⧺ 32 ∷ decimal i ⧺ 32 ∷ decimal j

-- out of memory is no line's fault, and has no text
abbrev pub shape_fault_text : ShapeFault → List ℕ
shape_fault_text (TooFew part) = with_number (codes "few") part
shape_fault_text (TooMany count) = with_number (codes "many") count
shape_fault_text (Cross i j) = with_pair (codes "cross") i j
shape_fault_text (Along i j) = with_pair (codes "along") i j
shape_fault_text NoMemory = []

abbrev pub line_refusal_text : LineRefusal → List ℕ
line_refusal_text NotALine = codes "E01"
line_refusal_text TooLong = codes "E02"
line_refusal_text (OffGrid at) = with_number (codes "E14") at
line_refusal_text (OutOfReach at) = with_number (codes "E15") at
line_refusal_text (Unsupported at) = with_number (codes "E16") at
line_refusal_text (NotClosed ring) = with_number (codes "E17") ring
line_refusal_text (Invalid fault) = codes "E18 " ⧺ shape_fault_text fault
line_refusal_text Reversed = codes "E24"

abbrev pub cause_code : Cause → List ℕ
cause_code cause.ClassTaken = codes "E03"
cause_code cause.ClassesFull = codes "E04"
cause_code cause.NoClass = codes "E05"
cause_code cause.Unfit = codes "E06"
cause_code cause.RuleThere = codes "E07"
cause_code cause.RulesFull = codes "E08"
cause_code cause.NoRule = codes "E09"
cause_code cause.WrongKind = codes "E13"
cause_code cause.NoFeature = codes "E19"
cause_code cause.HandlesSpent = codes "E21"
cause_code cause.NoError = codes "E25"
cause_code cause.AlreadySo = codes "E26"

abbrev pub refusal_text : Refusal → List ℕ
refusal_text (Line r) = line_refusal_text r
refusal_text SessionOpen = codes "E10"
refusal_text SessionsFull = codes "E11"
refusal_text NoSession = codes "E12"
refusal_text (HeldBy name) = codes "E20 " ⧺ name
refusal_text NothingToUndo = codes "E22"
refusal_text NothingToRedo = codes "E23"
refusal_text VersionTaken = codes "E27"
refusal_text VersionsFull = codes "E28"
refusal_text NoVersion = codes "E29"
refusal_text SessionsOpen = codes "E30"
refusal_text (Stale h) = with_number (codes "E31") h
refusal_text VersionsThere = codes "E32"
refusal_text NothingToFix = codes "E34"
refusal_text (BadShape fault) = codes "E18 " ⧺ shape_fault_text fault
refusal_text (Change c) = cause_code c
