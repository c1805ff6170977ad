-- The forms of a script's lines.
--
-- Piece              what stands in a field, or at the end of a line
-- IsSided field a    the field is the name of a; and behind it, where a has a subtype, a colon and digits of that value
-- Says field p       the field is this piece
-- IsLine text ps     the text is these pieces, one a field, between blanks and perhaps blanks at both ends
-- written w          the pieces of a window
-- pieces s w c       the table: the pieces of each command, in order; s and w give those of its shape and of its window
-- HasForm line f     the line has the form; at most one form has a given line
--
-- A handle is from 1, a partner from 0, both to 4,294,967,295; a rule's number is from 1 to 65,535, a subtype from 0 to 255; zeros in
-- front are free. A number outside these bounds is no such piece. Of a number of a window or a place any size is a piece. No name has a colon in it, so
-- the first colon of a field ends its name. Words are in lower case, and case counts.
-- The form says nothing of a line's length, and nothing of what its shape's text is. Source: own.
use Rattle.std.specs.Prelude.{◌≡◌, ℕ, ℤ, Bool, true, false, List, [], ◌∷◌, ◌++◌, Option, Some, None, is_some, codes, IsTrue}
use Rattle.plane_terms.specs.Point.{Place}
use Rattle.plane_terms.specs.declared.kind.Kind.{Kind}
use Rattle.plane_terms.specs.declared.kind.Kind.TheVariants as shapes
use Rattle.text_terms.specs.Fields.{is_name, skip_blanks, front_field, behind_field, skip_end_blanks, is_skipped}
use Rattle.text_terms.specs.Numbers.{IsSigned, IsWithinText}
use Rattle.rule_words.specs.Table.{word_of, dest_of}
use Rattle.line_terms.specs.Commands.{Sided, CommandOf, Blank, Class, Rule, DropRule, Begin, End, Discard, Add, Change, Delete, Retype, Undo, Redo, Explode, Snap, Create, Move, Validate, Mark, Unmark, Dirty, Errors, Cells, Features, Rules, Corners, Version, In, Reconcile, Post, Window, All, Numbers, Form}

-- ---- what stands in a field
pub data Piece : Type 0 where
  Word : List ℕ → Piece  -- these bytes
  Name : List ℕ → Piece  -- these bytes, which are a name
  Own : Sided → Piece  -- a class, or a subtype of it
  Number : ℕ → ℕ → ℕ → Piece  -- digits of a value from the first number to the second: the third
  Whole : ℤ → Piece  -- digits, with a `-` before them or without, of this value
  Rest : List ℕ → Piece  -- all that is left, without the blanks at its ends
  Remark : Piece  -- nothing, or all that is left behind a `#`
  Never : Piece  -- no text

-- the subtype behind a name
abbrev pub IsBound : List ℕ → List ℕ → Option ℕ → Type 0
IsBound field name None = field ≡ name
IsBound field name (Some s) = (digits : List ℕ) × (field ≡ name ++ 58 ∷ digits) × IsWithinText 0 255 digits s

abbrev pub IsSided : List ℕ → Sided → Type 0
IsSided field a = IsTrue (is_name a.name) × IsBound field a.name a.subtype

abbrev pub Says : List ℕ → Piece → Type 0
Says field (Word w) = field ≡ w
Says field (Name n) = (field ≡ n) × IsTrue (is_name n)
Says field (Own a) = IsSided field a
Says field (Number low high n) = IsWithinText low high field n
Says field (Whole z) = IsSigned field z
Says field other = ⊥

abbrev pub IsLine : List ℕ → List Piece → Type 0
IsLine text [] = skip_blanks text ≡ []
IsLine text (Rest r ∷ ps) = (skip_end_blanks (skip_blanks text) ≡ r) × (ps ≡ [])
IsLine text (Remark ∷ ps) = (is_skipped text ≡ true) × (ps ≡ [])
IsLine text (p ∷ ps) = Says (front_field (skip_blanks text)) p × IsLine (behind_field (skip_blanks text)) ps

-- ---- the table of forms
abbrev pub kind_word : Kind → List ℕ
kind_word shapes.Point = codes "point"
kind_word shapes.Line = codes "line"
kind_word shapes.Polygon = codes "polygon"

-- a second class, or a subtype of it, where the rule takes one, and none where it takes none
abbrev pub second_class : Bool → Option Sided → List Piece
second_class false None = []
second_class true (Some a) = Own a ∷ []
second_class takes other = Never ∷ []

abbrev pub rule_number : ℕ → Piece
rule_number r = Number 1 65535 r

abbrev pub handle : ℕ → Piece
handle h = Number 1 4294967295 h

abbrev pub subtype : ℕ → Piece
subtype t = Number 0 255 t

abbrev pub partner : ℕ → Piece
partner h = Number 0 4294967295 h

-- an end of a line, from 0
abbrev pub end_number : ℕ → Piece
end_number i = Number 0 4294967295 i

abbrev pub place : Place → List Piece → List Piece
place q ps = Whole q.x ∷ Whole q.y ∷ ps

abbrev pub written : Window → List Piece
written All = Word (codes "all") ∷ []
written (Numbers r) = Whole r.x0 ∷ Whole r.y0 ∷ Whole r.x1 ∷ Whole r.y1 ∷ []

abbrev pub pieces : {S W : Type 0} → (S → Piece) → (W → List Piece) → CommandOf S W → List Piece
pieces s w Blank = Remark ∷ []
pieces s w (Class n k) = Word (codes "class") ∷ Name n ∷ Word (kind_word k) ∷ []
pieces s w (Rule k origin dest) = Word (codes "rule") ∷ Word (word_of k) ∷ Own origin ∷ second_class (is_some (dest_of k)) dest
pieces s w (DropRule r) = Word (codes "droprule") ∷ rule_number r ∷ []
pieces s w (Begin e) = Word (codes "begin") ∷ Name e ∷ []
pieces s w (End e) = Word (codes "end") ∷ Name e ∷ []
pieces s w (Discard e) = Word (codes "discard") ∷ Name e ∷ []
pieces s w (Add e c shape) = Word (codes "by") ∷ Name e ∷ Word (codes "add") ∷ Own c ∷ s shape ∷ []
pieces s w (Change e h shape) = Word (codes "by") ∷ Name e ∷ Word (codes "change") ∷ handle h ∷ s shape ∷ []
pieces s w (Delete e h) = Word (codes "by") ∷ Name e ∷ Word (codes "delete") ∷ handle h ∷ []
pieces s w (Retype e h t) = Word (codes "by") ∷ Name e ∷ Word (codes "retype") ∷ handle h ∷ subtype t ∷ []
pieces s w (Undo e) = Word (codes "by") ∷ Name e ∷ Word (codes "undo") ∷ []
pieces s w (Redo e) = Word (codes "by") ∷ Name e ∷ Word (codes "redo") ∷ []
pieces s w (Explode e h) = Word (codes "by") ∷ Name e ∷ Word (codes "explode") ∷ handle h ∷ []
pieces s w (Snap e r h i to) = Word (codes "by") ∷ Name e ∷ Word (codes "snap") ∷ rule_number r ∷ handle h ∷ end_number i ∷ place to []
pieces s w (Create e r h at) = Word (codes "by") ∷ Name e ∷ Word (codes "create") ∷ rule_number r ∷ handle h ∷ place at []
pieces s w (Move e from to) = Word (codes "by") ∷ Name e ∷ Word (codes "move") ∷ place from (place to [])
pieces s w (Validate window) = Word (codes "validate") ∷ w window
pieces s w (Mark r a b) = Word (codes "mark") ∷ rule_number r ∷ handle a ∷ partner b ∷ []
pieces s w (Unmark r a b) = Word (codes "unmark") ∷ rule_number r ∷ handle a ∷ partner b ∷ []
pieces s w Dirty = Word (codes "dirty") ∷ []
pieces s w Errors = Word (codes "errors") ∷ []
pieces s w Cells = Word (codes "cells") ∷ []
pieces s w Features = Word (codes "features") ∷ []
pieces s w Rules = Word (codes "rules") ∷ []
pieces s w (Corners r a b) = Word (codes "corners") ∷ rule_number r ∷ handle a ∷ partner b ∷ []
pieces s w (Version n) = Word (codes "version") ∷ Name n ∷ []
pieces s w (In n) = Word (codes "in") ∷ Name n ∷ []
pieces s w (Reconcile n) = Word (codes "reconcile") ∷ Name n ∷ []
pieces s w (Post n) = Word (codes "post") ∷ Name n ∷ []

abbrev pub HasForm : List ℕ → Form → Type 0
HasForm line f = IsLine line (pieces Rest written f)
