-- The forms in groups, each of which has its reader.
--
-- group_of f         the group of the form
-- NoneOf g line      the line has no form of the group
-- IsPlain c          the command has no shape, no window and no place
-- IsBare line c      so, and the line is the pieces of the command
use Rattle.std.specs.Prelude.{◌≡◌, ℕ, List, []}
use Rattle.line_terms.specs.Commands.{Command, Form, All}
use Rattle.line_terms.specs.Commands as command
use Rattle.line_terms.specs.Forms.{HasForm, IsLine, pieces, Rest, written}

pub data Group : Type 0 where
  Skipped : Group
  Classes : Group
  Sessions : Group
  Edits : Group
  Fixes : Group
  Validations : Group
  Marks : Group
  Listings : Group
  Versions : Group

abbrev pub group_of : Form → Group
group_of command.Blank = Skipped
group_of (command.Class n k) = Classes
group_of (command.Rule k origin dest) = Classes
group_of (command.DropRule r) = Classes
group_of (command.Begin e) = Sessions
group_of (command.End e) = Sessions
group_of (command.Discard e) = Sessions
group_of (command.Add e c shape) = Edits
group_of (command.Change e h shape) = Edits
group_of (command.Delete e h) = Edits
group_of (command.Retype e h t) = Edits
group_of (command.Undo e) = Edits
group_of (command.Redo e) = Edits
group_of (command.Explode e h) = Fixes
group_of (command.Snap e r h i to) = Fixes
group_of (command.Create e r h at) = Fixes
group_of (command.Move e from to) = Fixes
group_of (command.Validate window) = Validations
group_of (command.Mark r a b) = Marks
group_of (command.Unmark r a b) = Marks
group_of command.Dirty = Listings
group_of command.Errors = Listings
group_of command.Cells = Listings
group_of command.Features = Listings
group_of command.Rules = Listings
group_of (command.Corners r a b) = Listings
group_of (command.Version n) = Versions
group_of (command.In n) = Versions
group_of (command.Reconcile n) = Versions
group_of (command.Post n) = Versions

abbrev pub NoneOf : Group → List ℕ → Type 0
NoneOf g line = (f : Form) → group_of f ≡ g → HasForm line f → ⊥

abbrev pub IsPlain : Command → Type 0
IsPlain (command.Add e c shape) = ⊥
IsPlain (command.Change e h shape) = ⊥
IsPlain (command.Snap e r h i to) = ⊥
IsPlain (command.Create e r h at) = ⊥
IsPlain (command.Move e from to) = ⊥
IsPlain (command.Validate window) = ⊥
IsPlain other = Unit {0}

abbrev pub IsBare : List ℕ → Command → Type 0
IsBare line c = IsPlain c × IsLine line (pieces (λ _. Rest []) (λ _. written All) c)
