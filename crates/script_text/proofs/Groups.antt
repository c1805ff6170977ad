-- Where no reader of a group finds a form there is none of the group.
use Rattle.std.proofs.Common.{ℕ, ◌≡◌, ◌≢◌, true, false, List, [], ◌∷◌, Option, Some, None, refl}
use Rattle.std.specs.Prelude.{codes}
use Rattle.plane_terms.specs.Point.{IsInReach}
use Rattle.plane_terms.specs.declared.kind.Kind.{Kind}
use Rattle.plane_terms.specs.declared.kind.Kind.TheVariants as shapes
use Rattle.text_terms.specs.Fields.{is_skipped}
use Rattle.rule_words.specs.declared.rule_kind.RuleKind.{RuleKind}
use Rattle.line_terms.specs.Commands.{Sided, Command, Form, All}
use Rattle.line_terms.specs.Commands as form
use Rattle.line_terms.specs.Forms.{Word, Name, Own, Rest, HasForm, IsLine, pieces, written, kind_word, second_class, rule_number, handle, subtype, partner}
use Rattle.line_terms.specs.Lines.{Holds, IsSpelling}
use Rattle.line_terms.specs.Windows.{IsWindow}
use Rattle.wkt_terms.specs.Shapes.{IsShapeText}
use Rattle.script_text.specs.Edits.{behind_editor}
use Rattle.script_text.specs.Groups.{Group, group_of, NoneOf, IsPlain, IsBare, Skipped, Classes, Sessions, Edits, Fixes, Validations, Marks, Listings, Versions}

pub no_kind : (text : List ℕ) → (IsLine text (Word (codes "point") ∷ []) → ⊥) → (IsLine text (Word (codes "line") ∷ []) → ⊥)
    → (IsLine text (Word (codes "polygon") ∷ []) → ⊥)
    → (k : Kind) → IsLine text (Word (kind_word k) ∷ []) → ⊥
no_kind text p l g shapes.Point h = p h
no_kind text p l g shapes.Line h = l h
no_kind text p l g shapes.Polygon h = g h

pub no_second : (text : List ℕ) → ((a : Sided) → IsLine text (Own a ∷ []) → ⊥) → (d : Option Sided) → IsLine text (second_class true d)
    → ⊥
no_second text none None h = h.0
no_second text none (Some a) h = none a h

pub no_first : (text : List ℕ) → (IsLine text [] → ⊥) → (d : Option Sided) → IsLine text (second_class false d) → ⊥
no_first text none None h = none h
no_first text none (Some n) h = h.0

pub no_class : (line : List ℕ)
    → ((n : List ℕ) (k : Kind) → HasForm line (form.Class n k) → ⊥)
    → ((k : RuleKind) (a : Sided) (d : Option Sided) → HasForm line (form.Rule k a d) → ⊥)
    → ((r : ℕ) → HasForm line (form.DropRule r) → ⊥)
    → NoneOf Classes line
no_class line class rule drop (form.Class n k) g p = class n k p
no_class line class rule drop (form.Rule k n d) g p = rule k n d p
no_class line class rule drop (form.DropRule r) g p = drop r p
no_class line class rule drop f g p = absurd cc

pub no_session : (line : List ℕ)
    → ((n : List ℕ) → IsLine line (Word (codes "begin") ∷ Name n ∷ []) → ⊥)
    → ((n : List ℕ) → IsLine line (Word (codes "end") ∷ Name n ∷ []) → ⊥)
    → ((n : List ℕ) → IsLine line (Word (codes "discard") ∷ Name n ∷ []) → ⊥)
    → NoneOf Sessions line
no_session line begin end discard (form.Begin e) g p = begin e p
no_session line begin end discard (form.End e) g p = end e p
no_session line begin end discard (form.Discard e) g p = discard e p
no_session line begin end discard f g p = absurd cc

pub no_version : (line : List ℕ)
    → ((n : List ℕ) → IsLine line (Word (codes "version") ∷ Name n ∷ []) → ⊥)
    → ((n : List ℕ) → IsLine line (Word (codes "in") ∷ Name n ∷ []) → ⊥)
    → ((n : List ℕ) → IsLine line (Word (codes "reconcile") ∷ Name n ∷ []) → ⊥)
    → ((n : List ℕ) → IsLine line (Word (codes "post") ∷ Name n ∷ []) → ⊥)
    → NoneOf Versions line
no_version line made gone merged posted (form.Version n) g p = made n p
no_version line made gone merged posted (form.In n) g p = gone n p
no_version line made gone merged posted (form.Reconcile n) g p = merged n p
no_version line made gone merged posted (form.Post n) g p = posted n p
no_version line made gone merged posted f g p = absurd cc

-- behind the editor
pub no_edit : (text : List ℕ)
    → ((a : Sided) (s : List ℕ) → IsLine text (Word (codes "add") ∷ Own a ∷ Rest s ∷ []) → ⊥)
    → ((h : ℕ) (s : List ℕ) → IsLine text (Word (codes "change") ∷ handle h ∷ Rest s ∷ []) → ⊥)
    → ((h : ℕ) → IsLine text (Word (codes "delete") ∷ handle h ∷ []) → ⊥)
    → ((h t : ℕ) → IsLine text (Word (codes "retype") ∷ handle h ∷ subtype t ∷ []) → ⊥)
    → (IsLine text (Word (codes "undo") ∷ []) → ⊥)
    → (IsLine text (Word (codes "redo") ∷ []) → ⊥)
    → (f : Form) → group_of f ≡ Edits → IsLine text (behind_editor (pieces Rest written f)) → ⊥
no_edit text add change delete retype undo redo (form.Add e c s) g p = add c s p
no_edit text add change delete retype undo redo (form.Change e h s) g p = change h s p
no_edit text add change delete retype undo redo (form.Delete e h) g p = delete h p
no_edit text add change delete retype undo redo (form.Retype e h t) g p = retype h t p
no_edit text add change delete retype undo redo (form.Undo e) g p = undo p
no_edit text add change delete retype undo redo (form.Redo e) g p = redo p
no_edit text add change delete retype undo redo f g p = absurd cc

pub no_mark : (line : List ℕ)
    → ((r a b : ℕ) → IsLine line (Word (codes "mark") ∷ rule_number r ∷ handle a ∷ partner b ∷ []) → ⊥)
    → ((r a b : ℕ) → IsLine line (Word (codes "unmark") ∷ rule_number r ∷ handle a ∷ partner b ∷ []) → ⊥)
    → NoneOf Marks line
no_mark line mark unmark (form.Mark r a b) g p = mark r a b p
no_mark line mark unmark (form.Unmark r a b) g p = unmark r a b p
no_mark line mark unmark f g p = absurd cc

pub no_listing : (line : List ℕ)
    → (HasForm line form.Dirty → ⊥) → (HasForm line form.Errors → ⊥) → (HasForm line form.Cells → ⊥) → (HasForm line form.Features → ⊥)
    → (HasForm line form.Rules → ⊥)
    → ((r a b : ℕ) → IsLine line (Word (codes "corners") ∷ rule_number r ∷ handle a ∷ partner b ∷ []) → ⊥)
    → NoneOf Listings line
no_listing line dirty errors cells features rules corners form.Dirty g p = dirty p
no_listing line dirty errors cells features rules corners form.Errors g p = errors p
no_listing line dirty errors cells features rules corners form.Cells g p = cells p
no_listing line dirty errors cells features rules corners form.Features g p = features p
no_listing line dirty errors cells features rules corners form.Rules g p = rules p
no_listing line dirty errors cells features rules corners (form.Corners r a b) g p = corners r a b p
no_listing line dirty errors cells features rules corners f g p = absurd cc

pub no_words : (line : List ℕ) → NoneOf Edits line → NoneOf Fixes line → NoneOf Validations line
    → NoneOf Listings line × NoneOf Classes line × NoneOf Sessions line × NoneOf Versions line × NoneOf Marks line
    → (f : Form) → group_of f ≢ Skipped → HasForm line f → ⊥
no_words line edits fixes validations plain f other p = by (group_of f) refl
  where
    by : (g : Group) → group_of f ≡ g → ⊥
    by Skipped e = other e
    by Classes e = plain.1 f e p
    by Sessions e = plain.2 f e p
    by Edits e = edits f e p
    by Fixes e = fixes f e p
    by Validations e = validations f e p
    by Versions e = plain.3 f e p
    by Marks e = plain.4 f e p
    by Listings e = plain.0 f e p

pub no_form : (line : List ℕ) → is_skipped line ≡ false → ((f : Form) → group_of f ≢ Skipped → HasForm line f → ⊥) → (f : Form)
    → HasForm line f → ⊥
no_form line plain none form.Blank p = cc
no_form line plain none f p = none f (λ e. cc) p

-- a command that has no shape, no window and no place
meant : (c : Command) → IsPlain c → Holds (IsShapeText []) (IsWindow All) IsInReach c
meant (form.Add e c shape) p = absurd p
meant (form.Change e h shape) p = absurd p
meant (form.Snap e r h i to) p = absurd p
meant (form.Create e r h at) p = absurd p
meant (form.Move e from to) p = absurd p
meant (form.Validate window) p = absurd p
meant other p = tt

pub bare : (line : List ℕ) (c : Command) → IsBare line c → IsSpelling line c
bare line c h = record { text = []; window = All; spelled = h.1; meant = meant c h.0 }
