-- A line has one command, and a line that has one has no fault.
use Rattle.std.proofs.Common.{ℕ, ℤ, zero, suc, ◌≡◌, List, [], ◌∷◌, ◌++◌, sym, ◌∙◌, subst, arith, inl, inr, refl}
use Rattle.std.proofs.lemmas.Int.{ints}
use Rattle.plane_terms.specs.Rectangle.{Rectangle, IsRectangle, IsFirstOut, numbers_of}
use Rattle.plane_terms.specs.Lists.{Every}
use Rattle.plane_terms.specs.Point.{InReach, IsInReach}
use Rattle.plane_terms.specs.Shape.{Shape}
use Rattle.wkt_terms.specs.Shapes.{IsShapeText}
use Rattle.wkt_terms.specs.declared.wkt_fault.WktFault.TheVariants as text
use Rattle.wkt_text.proofs.Results.{one_shape, no_text_fault}
use Rattle.line_terms.specs.Commands.{Command, Form, Window, All, Numbers}
use Rattle.line_terms.specs.Commands as form
use Rattle.line_terms.specs.Forms.{HasForm, IsLine, pieces, Rest, written}
use Rattle.line_terms.specs.Lines.{Holds, IsSpelling, IsCommandLine, IsTextRefusal, IsPlaceFault, coordinates, IsFaultOf, HasFaultyForm, IsLineFault}
use Rattle.line_terms.specs.Windows.{IsWindow, IsWindowFault}
use Rattle.line_terms.specs.declared.line_refusal.LineRefusal.{LineRefusal}
use Rattle.line_terms.specs.declared.line_refusal.LineRefusal.TheVariants as refusal
use Rattle.script_text.proofs.OneForm.{one_form, one_of, one_window, tagged}
use Rattle.script_text.specs.Faults.{IsFault}
use Rattle.script_text.specs.declared.fault.LineFault.{LineFault}
use Rattle.script_text.specs.declared.fault.LineFault.TheVariants.{Refused, NoMemory}

-- ---- one command
one_rectangle : (v : Window) (x y : Rectangle) → IsWindow v x → IsWindow v y → x ≡ y
one_rectangle All x y p q = p ∙ sym q
one_rectangle (Numbers r) x y p q = p.0 ∙ sym q.0

same_text : (text t u : List ℕ) → IsLine text (Rest t ∷ []) → IsLine text (Rest u ∷ []) → t ≡ u
same_text text t u p q = sym p.0 ∙ q.0

pub one_spelled : (line : List ℕ) (c d : Command) → IsSpelling line c → IsSpelling line d → c ≡ d
one_spelled line c d p q =
    one_of (λ _. Rest p.text) (λ _. Rest q.text) (λ _. written p.window) (λ _. written q.window)
    (IsShapeText p.text) (IsShapeText q.text) (IsWindow p.window) (IsWindow q.window) IsInReach IsInReach
    (λ text x y a b m n. one_shape q.text x y (subst (λ t. IsShapeText t x) (same_text text p.text q.text a b) m) n)
    (λ text x y a b m n. one_rectangle q.window x y (subst (λ v. IsWindow v x) (one_window text p.window q.window a b) m) n)
    line c d p.spelled q.spelled p.meant q.meant
    (sym (tagged (λ _. Rest p.text) (λ _. written p.window) line c p.spelled)
    ∙ tagged (λ _. Rest q.text) (λ _. written q.window) line d q.spelled)

pub one_command : (line : List ℕ) (c d : Command) → IsCommandLine line c → IsCommandLine line d → c ≡ d
one_command line c d p q = one_spelled line c d p.1 q.1

-- ---- and no fault
-- what the line of a command says
abbrev said : List ℕ → Window → Command → Form
said t v form.Blank = form.Blank
said t v (form.Class n k) = form.Class n k
said t v (form.Rule k n d) = form.Rule k n d
said t v (form.DropRule r) = form.DropRule r
said t v (form.Begin e) = form.Begin e
said t v (form.End e) = form.End e
said t v (form.Discard e) = form.Discard e
said t v (form.Add e c s) = form.Add e c t
said t v (form.Change e h s) = form.Change e h t
said t v (form.Delete e h) = form.Delete e h
said t v (form.Retype e h s) = form.Retype e h s
said t v (form.Undo e) = form.Undo e
said t v (form.Redo e) = form.Redo e
said t v (form.Explode e h) = form.Explode e h
said t v (form.Snap e r h i to) = form.Snap e r h i to
said t v (form.Create e r h at) = form.Create e r h at
said t v (form.Move e from to) = form.Move e from to
said t v (form.Validate w) = form.Validate v
said t v (form.Mark r a b) = form.Mark r a b
said t v (form.Unmark r a b) = form.Unmark r a b
said t v form.Dirty = form.Dirty
said t v form.Errors = form.Errors
said t v form.Cells = form.Cells
said t v form.Features = form.Features
said t v form.Rules = form.Rules
said t v (form.Corners r a b) = form.Corners r a b
said t v (form.Version n) = form.Version n
said t v (form.In n) = form.In n
said t v (form.Reconcile n) = form.Reconcile n
said t v (form.Post n) = form.Post n

said_there : (line t : List ℕ) (v : Window) (c : Command) → IsLine line (pieces (λ _. Rest t) (λ _. written v) c)
    → HasForm line (said t v c)
said_there line t v form.Blank p = p
said_there line t v other p = p

no_text_refusal : (t : List ℕ) (s : Shape) (r : LineRefusal) → IsShapeText t s → IsTextRefusal t r → ⊥
no_text_refusal t s refusal.NotALine m f = let e = no_text_fault t s (text.Syntax f.0) m f.1 in cc
no_text_refusal t s (refusal.OffGrid at) m f = let e = no_text_fault t s (text.OffGrid at) m f in cc
no_text_refusal t s (refusal.OutOfReach at) m f = let e = no_text_fault t s (text.OutOfReach at) m f in cc
no_text_refusal t s (refusal.Unsupported at) m f = let e = no_text_fault t s (text.Unsupported at) m f in cc
no_text_refusal t s (refusal.NotClosed ring) m f = let e = no_text_fault t s (text.NotClosed ring) m f in cc
no_text_refusal t s (refusal.Invalid fault) m f = let e = no_text_fault t s (text.Invalid fault) m f in cc
no_text_refusal t s other m f = f

reach_x0 : (w : Rectangle) → IsRectangle w → InReach w.x0
reach_x0 w h = record { low = omega (arith, ints); high = omega (arith, ints) }

reach_y0 : (w : Rectangle) → IsRectangle w → InReach w.y0
reach_y0 w h = record { low = omega (arith, ints); high = omega (arith, ints) }

reach_x1 : (w : Rectangle) → IsRectangle w → InReach w.x1
reach_x1 w h = record { low = omega (arith, ints); high = omega (arith, ints) }

reach_y1 : (w : Rectangle) → IsRectangle w → InReach w.y1
reach_y1 w h = record { low = omega (arith, ints); high = omega (arith, ints) }

none_out : (at : ℕ) (r : Rectangle) → IsRectangle r → IsFirstOut at (numbers_of r) → ⊥
none_out zero r h f = f (reach_x0 r h)
none_out (suc zero) r h f = f.1 (reach_y0 r h)
none_out (suc (suc zero)) r h f = f.1.1 (reach_x1 r h)
none_out (suc (suc (suc zero))) r h f = f.1.1.1 (reach_y1 r h)
none_out (suc (suc (suc (suc at)))) r h f = f.1.1.1.1

no_window_refusal : (v : Window) (w : Rectangle) (r : LineRefusal) → IsWindow v w → IsWindowFault v r → ⊥
no_window_refusal All w r m f = f
no_window_refusal (Numbers q) w (refusal.OutOfReach at) m f = none_out at q m.1 f
no_window_refusal (Numbers q) w refusal.Reversed m f = f.1 m.1.proper
no_window_refusal (Numbers q) w other m f = f

none_beyond : (at : ℕ) (ns : List ℤ) → Every InReach ns → IsFirstOut at ns → ⊥
none_beyond at [] h f = f
none_beyond zero (n ∷ ns) h f = f h.0
none_beyond (suc at) (n ∷ ns) h f = none_beyond at ns h.1 f.1

no_place_refusal : (ns : List ℤ) (r : LineRefusal) → Every InReach ns → IsPlaceFault ns r → ⊥
no_place_refusal ns (refusal.OutOfReach at) h f = none_beyond at ns h f
no_place_refusal ns other h f = f

no_refusal : (t : List ℕ) (v : Window) (c : Command) (r : LineRefusal) → Holds (IsShapeText t) (IsWindow v) IsInReach c
    → IsFaultOf (said t v c) r → ⊥
no_refusal t v (form.Add e k s) r m f = no_text_refusal t s r m f
no_refusal t v (form.Change e h s) r m f = no_text_refusal t s r m f
no_refusal t v (form.Snap e n h i to) r m f = no_place_refusal (coordinates to) r (m.x, (m.y, tt)) f
no_refusal t v (form.Create e n h at) r m f = no_place_refusal (coordinates at) r (m.x, (m.y, tt)) f
no_refusal t v (form.Move e from to) r m f =
    no_place_refusal (coordinates from ++ coordinates to) r (m.0.x, (m.0.y, (m.1.x, (m.1.y, tt)))) f
no_refusal t v (form.Validate w) r m f = no_window_refusal v w r m f
no_refusal t v other r m f = f

no_faulty : (line : List ℕ) (c : Command) (r : LineRefusal) → IsSpelling line c → HasFaultyForm line r → ⊥
no_faulty line c r p f =
    let same = one_form line f.0 (said p.text p.window c) f.1 (said_there line p.text p.window c p.spelled) in
    no_refusal p.text p.window c r p.meant (subst (λ g. IsFaultOf g r) same f.2)

no_fault : (line : List ℕ) (c : Command) (r : LineRefusal) → IsCommandLine line c → IsLineFault line r → ⊥
no_fault line c r p (inl long) = omega (arith, p.0, long.0)
no_fault line c r p (inr (w, inl none)) = none.0 (said p.1.text p.1.window c) (said_there line p.1.text p.1.window c p.1.spelled)
no_fault line c r p (inr (w, inr faulty)) = no_faulty line c r p.1 faulty

pub only_memory : (line : List ℕ) (c : Command) (e : LineFault) → IsCommandLine line c → IsFault line e → e ≡ NoMemory
only_memory line c (Refused r) p f = absurd (no_fault line c r p f)
only_memory line c NoMemory p f = refl
