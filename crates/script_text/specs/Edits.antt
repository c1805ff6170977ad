-- What an edit's line says behind its editor.
--
-- edit_form e d        the form of a line of the editor e, of which the code holds the rest
-- behind_editor ps     the pieces without the word and the editor at their front
-- IsTextWithin f       the text of the form's shape, where it has one, is no longer than a line may be
-- IsEditOf f c         what the form of an edit says, its shape read, is the command
-- IsEditFault f e      what it says is no command, and e says why; out of memory says nothing
use Rattle.std.specs.Prelude.{◌≡◌, ◌≤◌, ℕ, List, [], ◌∷◌, length}
use Rattle.plane_terms.specs.Shape.{Shape}
use Rattle.wkt_terms.specs.Shapes.{IsShapeText}
use Rattle.line_terms.specs.Commands.{Command, Form}
use Rattle.line_terms.specs.Commands as command
use Rattle.line_terms.specs.Forms.{Piece}
use Rattle.line_terms.specs.Lines.{IsFaultOf}
use Rattle.script_text.specs.declared.edits.Edit.{Edit}
use Rattle.script_text.specs.declared.edits.Edit.TheVariants as edit
use Rattle.script_text.specs.declared.fault.LineFault.{LineFault}
use Rattle.script_text.specs.declared.fault.LineFault.TheVariants.{Refused, NoMemory}

abbrev pub edit_form : List ℕ → Edit → Form
edit_form e (edit.Add own text) = command.Add e own text.now
edit_form e (edit.Change handle text) = command.Change e handle text.now
edit_form e (edit.Delete handle) = command.Delete e handle
edit_form e (edit.Retype handle subtype) = command.Retype e handle subtype
edit_form e edit.Undo = command.Undo e
edit_form e edit.Redo = command.Redo e

abbrev pub behind_editor : List Piece → List Piece
behind_editor (p ∷ q ∷ ps) = ps
behind_editor other = []

abbrev pub IsTextWithin : Form → Type 0
IsTextWithin (command.Add e c t) = length t ≤ 1048576
IsTextWithin (command.Change e h t) = length t ≤ 1048576
IsTextWithin other = Unit {0}

abbrev pub IsEditOf : Form → Command → Type 0
IsEditOf (command.Add e k t) c = (s : Shape) × IsShapeText t s × (c ≡ command.Add e k s)
IsEditOf (command.Change e h t) c = (s : Shape) × IsShapeText t s × (c ≡ command.Change e h s)
IsEditOf (command.Delete e h) c = c ≡ command.Delete e h
IsEditOf (command.Retype e h t) c = c ≡ command.Retype e h t
IsEditOf (command.Undo e) c = c ≡ command.Undo e
IsEditOf (command.Redo e) c = c ≡ command.Redo e
IsEditOf other c = ⊥

abbrev pub IsEditFault : Form → LineFault → Type 0
IsEditFault f (Refused r) = IsFaultOf f r
IsEditFault f NoMemory = Unit {0}
