-- The commands of a script, and what its lines say before their shapes and windows are read.
--
-- CommandOf S W  one constructor a command, with the values of its line's fields in their order; a name is its bytes; S stands for its
--                shape,
--                and W for its window; a place is two whole numbers
-- Command        with the shape, and with the window's rectangle
-- Sided          what a line speaks of by a name: a class, or one subtype of it
-- Window         a window as it is written: as the word `all`, or as four whole numbers of any size, in the order of a rectangle's
-- Form           what a line says: a command with the text of its shape, which is the rest of the line without the blanks at its ends, and
--                with its window as it is written; its places may be beyond the reach
--
-- Blank is the command of a line that is skipped. Source: own.
use Rattle.std.specs.Prelude.{ℕ, List, Option}
use Rattle.plane_terms.specs.Point.{Place}
use Rattle.plane_terms.specs.Rectangle.{Rectangle}
use Rattle.plane_terms.specs.Shape.{Shape}
use Rattle.plane_terms.specs.declared.kind.Kind.{Kind}
use Rattle.rule_words.specs.declared.rule_kind.RuleKind.{RuleKind}

pub record Sided : Type 0 where
  pub name : List ℕ
  pub subtype : Option ℕ

pub data CommandOf (S W : Type 0) : Type 0 where
  Blank : CommandOf S W
  Class : List ℕ → Kind → CommandOf S W
  Rule : RuleKind → Sided → Option Sided → CommandOf S W
  DropRule : ℕ → CommandOf S W
  Begin : List ℕ → CommandOf S W
  End : List ℕ → CommandOf S W
  Discard : List ℕ → CommandOf S W
  Add : List ℕ → Sided → S → CommandOf S W
  Change : List ℕ → ℕ → S → CommandOf S W
  Delete : List ℕ → ℕ → CommandOf S W
  Retype : List ℕ → ℕ → ℕ → CommandOf S W
  Undo : List ℕ → CommandOf S W
  Redo : List ℕ → CommandOf S W
  Explode : List ℕ → ℕ → CommandOf S W
  Snap : List ℕ → ℕ → ℕ → ℕ → Place → CommandOf S W
  Create : List ℕ → ℕ → ℕ → Place → CommandOf S W
  Move : List ℕ → Place → Place → CommandOf S W
  Validate : W → CommandOf S W
  Mark : ℕ → ℕ → ℕ → CommandOf S W
  Unmark : ℕ → ℕ → ℕ → CommandOf S W
  Dirty : CommandOf S W
  Errors : CommandOf S W
  Cells : CommandOf S W
  Features : CommandOf S W
  Rules : CommandOf S W
  Corners : ℕ → ℕ → ℕ → CommandOf S W
  Version : List ℕ → CommandOf S W
  In : List ℕ → CommandOf S W
  Reconcile : List ℕ → CommandOf S W
  Post : List ℕ → CommandOf S W

abbrev pub Command : Type 0
Command = CommandOf Shape Rectangle

pub data Window : Type 0 where
  All : Window
  Numbers : Rectangle → Window

abbrev pub Form : Type 0
Form = CommandOf (List ℕ) Window
