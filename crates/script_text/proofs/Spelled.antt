-- What is read of a line is what it spells: of an edit's line, of a window's, and of any.
use Rattle.std.proofs.Common.{ℕ, ◌≡◌, ◌≤◌, true, List, [], ◌∷◌, refl, sym, ◌∙◌, ap, subst, inl, inr, Result, Ok, Err, MatchResult}
use Rattle.std.specs.Prelude.{codes, length, IsTrue, IfOk, IfErr}
use Rattle.plane_terms.specs.Rectangle.{Rectangle, rect_of}
use Rattle.text_terms.specs.Fields.{is_name, is_skipped, skip_blanks, front_field, behind_field}
use Rattle.text_terms.specs.Numbers.{IsSigned}
use Rattle.wkt_terms.specs.WktFaults.{IsWktFault}
use Rattle.wkt_terms.specs.declared.wkt_fault.WktFault.{WktFault}
use Rattle.wkt_terms.specs.declared.wkt_fault.WktFault.TheVariants as wkt
use Rattle.line_terms.specs.Commands as form
use Rattle.line_terms.specs.Commands.{Form, All, Numbers}
use Rattle.line_terms.specs.Forms.{Word, Name, HasForm, IsLine, pieces, Rest, written}
use Rattle.line_terms.specs.Lines.{IsSpelling, IsCommandLine, IsLineFault}
use Rattle.line_terms.specs.declared.line_refusal.LineRefusal.TheVariants as refusal
use Rattle.script_text.specs.Edits.{edit_form, behind_editor, IsEditOf, IsEditFault}
use Rattle.script_text.specs.Faults.{fault_of, IsFault, IsRead}
use Rattle.script_text.specs.Groups.{NoneOf, Validations}
use Rattle.script_text.specs.Seen.{command_of}
use Rattle.script_text.specs.Wholes.{IsFor, AreFor}
use Rattle.script_text.specs.Windows.{IsValidateOf, IsNoWindow}
use Rattle.script_text.specs.declared.command.Command.{Command}
use Rattle.script_text.specs.declared.edits.Edit.{Edit}
use Rattle.script_text.specs.declared.edits.Edit.TheVariants as edit
use Rattle.script_text.specs.declared.fault.LineFault.{LineFault}
use Rattle.script_text.specs.declared.fault.LineFault.TheVariants.{Refused, NoMemory}
use Rattle.script_text.specs.declared.whole.Whole.{Whole}
use Rattle.script_text.proofs.OneCommand.{one_command, only_memory}

abbrev first : List ℕ → List ℕ
first text = front_field (skip_blanks text)

abbrev behind : List ℕ → List ℕ
behind text = behind_field (skip_blanks text)

-- ---- edits
pub add_fault : (n : List ℕ) (k : form.Sided) (t : List ℕ) (f : WktFault) (e : LineFault) → e ≡ fault_of f → IsWktFault t f → IsEditFault (form.Add n k t) e
add_fault n k t f e same w = subst (IsEditFault (form.Add n k t)) (sym same) (by f w)
  where
    by : (g : WktFault) → IsWktFault t g → IsEditFault (form.Add n k t) (fault_of g)
    by (wkt.Syntax at) h = (at, h)
    by (wkt.OffGrid at) h = h
    by (wkt.OutOfReach at) h = h
    by (wkt.Unsupported at) h = h
    by (wkt.NotClosed ring) h = h
    by (wkt.Invalid fault) h = h
    by wkt.NoMemory h = tt

edit_pieces : (n : List ℕ) (d : Edit)
    → pieces Rest written (edit_form n d) ≡ Word (codes "by") ∷ (Name n ∷ behind_editor (pieces Rest written (edit_form n d)))
edit_pieces n (edit.Add own text) = refl
edit_pieces n (edit.Change handle text) = refl
edit_pieces n (edit.Delete handle) = refl
edit_pieces n (edit.Retype handle subtype) = refl
edit_pieces n edit.Undo = refl
edit_pieces n edit.Redo = refl

pub edit_there : (line rest more n : List ℕ) (d : Edit) → first line ≡ codes "by" → rest ≡ behind line → first rest ≡ n → IsTrue (is_name n)
    → more ≡ behind rest
    → IsLine more (behind_editor (pieces Rest written (edit_form n d))) → HasForm line (edit_form n d)
edit_there line rest more n d word e name good f h =
    let ps = behind_editor (pieces Rest written (edit_form n d)) in
    let named = subst (λ t. first t ≡ n) e name in
    let last = subst (λ t. IsLine t ps) (f ∙ ap behind e) h in
    subst (IsLine line) (sym (edit_pieces n d)) (word, ((named, good), last))

edit_spelled : (line : List ℕ) (f : Form) (c : form.Command) → HasForm line f → IsEditOf f c → IsSpelling line c
edit_spelled line (form.Add e k t) c h m = subst (IsSpelling line) (sym m.2) (record { text = t; window = All; spelled = h; meant = m.1 })
edit_spelled line (form.Change e k t) c h m =
    subst (IsSpelling line) (sym m.2) (record { text = t; window = All; spelled = h; meant = m.1 })
edit_spelled line (form.Delete e k) c h m = subst (IsSpelling line) (sym m) (record { text = []; window = All; spelled = h; meant = tt })
edit_spelled line (form.Retype e k t) c h m =
    subst (IsSpelling line) (sym m) (record { text = []; window = All; spelled = h; meant = tt })
edit_spelled line (form.Undo e) c h m = subst (IsSpelling line) (sym m) (record { text = []; window = All; spelled = h; meant = tt })
edit_spelled line (form.Redo e) c h m = subst (IsSpelling line) (sym m) (record { text = []; window = All; spelled = h; meant = tt })
edit_spelled line other c h m = absurd m

pub edit_read : (line : List ℕ) (f : Form) (r : Result Command LineFault) → HasForm line f
    → MatchResult r (λ c. IsEditOf f (command_of c)) (λ e. IsEditFault f e) → IsRead line r
edit_read line f (Ok c) h m = edit_spelled line f (command_of c) h m
edit_read line f (Err (Refused r)) h m = (f, h, m)
edit_read line f (Err NoMemory) h m = tt

-- ---- windows
pub numbers_read : (text u v w x : List ℕ) (a b c d : Whole) → IsFor a (first text) → u ≡ behind text → IsFor b (first u) → v ≡ behind u
    → IsFor c (first v) → w ≡ behind v
    → IsFor d (first w) → x ≡ behind w → skip_blanks x ≡ [] → (r : Rectangle) × IsLine text (written (Numbers r)) × AreFor a b c d r
numbers_read text u v w x a b c d f0 e0 f1 e1 f2 e2 f3 e3 over =
    let v1 : v ≡ behind (behind text) = e1 ∙ ap behind e0 in
    let w1 : w ≡ behind (behind (behind text)) = e2 ∙ ap behind v1 in
    let x1 : x ≡ behind (behind (behind (behind text))) = e3 ∙ ap behind w1 in
    let g1 = subst (λ t. IsSigned (first t) f1.0) e0 f1.1 in
    let g2 = subst (λ t. IsSigned (first t) f2.0) v1 f2.1 in
    let g3 = subst (λ t. IsSigned (first t) f3.0) w1 f3.1 in
    let end = subst (λ t. skip_blanks t ≡ []) x1 over in
    (rect_of f0.0 f1.0 f2.0 f3.0, (f0.1, (g1, (g2, (g3, end)))), record { left = f0.2; below = f1.2; right = f2.2; above = f3.2 })

pub no_validation : (line rest : List ℕ) → rest ≡ behind line → (IsLine rest (Word (codes "all") ∷ []) → ⊥)
    → ((r : Rectangle) → IsLine rest (written (Numbers r)) → ⊥)
    → NoneOf Validations line
no_validation line rest e all numbers (form.Validate All) g p = all (subst (λ t. IsLine t (written All)) (sym e) p.1)
no_validation line rest e all numbers (form.Validate (Numbers r)) g p = numbers r (subst (λ t. IsLine t (written (Numbers r))) (sym e) p.1)
no_validation line rest e all numbers f g p = absurd cc

pub validation_read : (line rest : List ℕ) (r : Rectangle) (x : Result Command LineFault) → first line ≡ codes "validate"
    → rest ≡ behind line → IsLine rest (written (Numbers r))
    → MatchResult x (λ c. IsValidateOf r (command_of c)) (λ e. IsNoWindow r e) → IsRead line x
validation_read line rest r (Ok c) word e h m =
    let last = subst (λ t. IsLine t (written (Numbers r))) e h in
    subst (IsSpelling line) (sym m.1) (record { text = []; window = Numbers r; spelled = (word, last); meant = m.2 })
validation_read line rest r (Err (Refused f)) word e h m =
    (form.Validate (Numbers r), (word, subst (λ t. IsLine t (written (Numbers r))) e h), m)
validation_read line rest r (Err NoMemory) word e h m = tt

-- ---- any line
pub blank : (line : List ℕ) → length line ≤ 1048576 → is_skipped line ≡ true → IsCommandLine line form.Blank
blank line w h = (w, record { text = []; window = All; spelled = (h, refl); meant = tt })

pub formless : (line : List ℕ) → length line ≤ 1048576 → ((f : Form) → HasForm line f → ⊥) → IsLineFault line refusal.NotALine
formless line w none = inr (w, inl (none, refl))

pub only_one : (line : List ℕ) (r : Result Command LineFault) → IfOk r (λ c. IsCommandLine line (command_of c)) → IfErr r (IsFault line)
    → (c : form.Command) → IsCommandLine line c → MatchResult r (λ d. command_of d ≡ c) (λ e. e ≡ NoMemory)
only_one line (Ok d) h k c p = one_command line (command_of d) c h p
only_one line (Err e) h k c p = only_memory line c e p k
