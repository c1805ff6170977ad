-- A line has one fault at most.
use Rattle.std.proofs.Common.{ℕ, ℤ, zero, suc, ◌≡◌, ◌<◌, ◌≤◌, length, List, [], ◌∷◌, ◌++◌, refl, sym, ap, ◌∙◌, subst, arith, ◌⊎◌, inl, inr}
use Rattle.plane_terms.specs.Lists.{Every}
use Rattle.plane_terms.specs.Point.{InReach}
use Rattle.plane_terms.specs.Rectangle.{IsFirstOut, numbers_of}
use Rattle.wkt_terms.specs.WktFaults.{IsWktFault}
use Rattle.wkt_terms.specs.declared.wkt_fault.WktFault.{WktFault}
use Rattle.wkt_terms.specs.declared.wkt_fault.WktFault.TheVariants as text
use Rattle.wkt_text.proofs.OneFault.{one_fault}
use Rattle.line_terms.specs.Commands.{Form, Window, All, Numbers}
use Rattle.line_terms.specs.Commands as form
use Rattle.line_terms.specs.Forms.{HasForm}
use Rattle.line_terms.specs.Lines.{IsTextRefusal, IsPlaceFault, coordinates, IsFaultOf, HasFaultyForm, IsLineFault}
use Rattle.line_terms.specs.Windows.{IsWindowFault}
use Rattle.line_terms.specs.declared.line_refusal.LineRefusal.{LineRefusal}
use Rattle.line_terms.specs.declared.line_refusal.LineRefusal.TheVariants.{NotALine, OffGrid, OutOfReach, Unsupported, NotClosed, Invalid, Reversed}
use Rattle.script_text.proofs.OneForm.{one_form}
use Rattle.script_text.specs.Faults.{fault_of}
use Rattle.script_text.specs.declared.fault.LineFault.TheVariants.{Refused}

-- ---- of a text
-- the text's fault for which the line is refused so
abbrev Why : List ℕ → LineRefusal → Type 0
Why t r = (e : WktFault) × IsWktFault t e × (e ≡ text.NoMemory → ⊥) × (Refused r ≡ fault_of e)

why : (t : List ℕ) (r : LineRefusal) → IsTextRefusal t r → Why t r
why t NotALine h = (text.Syntax h.0, h.1, (λ e. cc), refl)
why t (OffGrid at) h = (text.OffGrid at, h, (λ e. cc), refl)
why t (OutOfReach at) h = (text.OutOfReach at, h, (λ e. cc), refl)
why t (Unsupported at) h = (text.Unsupported at, h, (λ e. cc), refl)
why t (NotClosed ring) h = (text.NotClosed ring, h, (λ e. cc), refl)
why t (Invalid fault) h = (text.Invalid fault, h, (λ e. cc), refl)
why t other h = absurd h

one_refused : (r q : LineRefusal) → Refused r ≡ Refused q → r ≡ q
one_refused r q e = cc

of_text : (t : List ℕ) (r q : LineRefusal) → IsTextRefusal t r → IsTextRefusal t q → r ≡ q
of_text t r q h k =
    let a = why t r h in let b = why t q k in
    one_refused r q (a.3 ∙ (ap fault_of (one_fault t a.0 b.0 a.2 b.2 a.1 b.1) ∙ sym b.3))

-- ---- of a window
first_out : (vs : List ℤ) (m n : ℕ) → IsFirstOut m vs → IsFirstOut n vs → m ≡ n
first_out [] m n h k = absurd h
first_out (v ∷ vs) zero zero h k = refl
first_out (v ∷ vs) zero (suc n) h k = absurd (h k.0)
first_out (v ∷ vs) (suc m) zero h k = absurd (k h.0)
first_out (v ∷ vs) (suc m) (suc n) h k = ap suc (first_out vs m n h.1 k.1)

all_or_out : (vs : List ℤ) (n : ℕ) → Every InReach vs → IsFirstOut n vs → ⊥
all_or_out [] n h k = k
all_or_out (v ∷ vs) zero h k = k h.0
all_or_out (v ∷ vs) (suc n) h k = all_or_out vs n h.1 k.1

of_window : (v : Window) (r q : LineRefusal) → IsWindowFault v r → IsWindowFault v q → r ≡ q
of_window All r q h k = absurd h
of_window (Numbers w) (OutOfReach m) (OutOfReach n) h k = ap OutOfReach (first_out (numbers_of w) m n h k)
of_window (Numbers w) (OutOfReach m) Reversed h k = absurd (all_or_out (numbers_of w) m k.0 h)
of_window (Numbers w) Reversed (OutOfReach n) h k = absurd (all_or_out (numbers_of w) n h.0 k)
of_window (Numbers w) Reversed Reversed h k = refl
of_window (Numbers w) (OutOfReach m) q h k = absurd k
of_window (Numbers w) Reversed q h k = absurd k
of_window (Numbers w) r q h k = absurd h

-- ---- of places
of_places : (ns : List ℤ) (r q : LineRefusal) → IsPlaceFault ns r → IsPlaceFault ns q → r ≡ q
of_places ns (OutOfReach m) (OutOfReach n) h k = ap OutOfReach (first_out ns m n h k)
of_places ns (OutOfReach m) q h k = absurd k
of_places ns r q h k = absurd h

-- ---- of a line
of_form : (f : Form) (r q : LineRefusal) → IsFaultOf f r → IsFaultOf f q → r ≡ q
of_form (form.Add e c t) r q h k = of_text t r q h k
of_form (form.Change e n t) r q h k = of_text t r q h k
of_form (form.Snap e n a i to) r q h k = of_places (coordinates to) r q h k
of_form (form.Create e n a at) r q h k = of_places (coordinates at) r q h k
of_form (form.Move e from to) r q h k = of_places (coordinates from ++ coordinates to) r q h k
of_form (form.Validate v) r q h k = of_window v r q h k
of_form other r q h k = absurd h

faulty : (line : List ℕ) (r q : LineRefusal) → HasFaultyForm line r → HasFaultyForm line q → r ≡ q
faulty line r q h k =
    let same : h.0 ≡ k.0 = one_form line h.0 k.0 h.1 k.1 in
    of_form k.0 r q (subst (λ f. IsFaultOf f r) same h.2) k.2

abbrev HasNoForm : List ℕ → Type 0
HasNoForm line = (f : Form) → ¬ (HasForm line f)

formed : (line : List ℕ) (r q : LineRefusal) → HasNoForm line × (r ≡ NotALine) ⊎ HasFaultyForm line r
    → HasNoForm line × (q ≡ NotALine) ⊎ HasFaultyForm line q → r ≡ q
formed line r q (inl h) (inl k) = h.1 ∙ sym k.1
formed line r q (inl h) (inr k) = absurd (h.0 k.0 k.1)
formed line r q (inr h) (inl k) = absurd (k.0 h.0 h.1)
formed line r q (inr h) (inr k) = faulty line r q h k

long_or_short : (n : ℕ) → 1048576 < n → n ≤ 1048576 → ⊥
long_or_short n h k = omega (arith, h, k)

pub one_line_fault : (line : List ℕ) (r q : LineRefusal) → IsLineFault line r → IsLineFault line q → r ≡ q
one_line_fault line r q (inl h) (inl k) = h.1 ∙ sym k.1
one_line_fault line r q (inl h) (inr k) = absurd (long_or_short (length line) h.0 k.0)
one_line_fault line r q (inr h) (inl k) = absurd (long_or_short (length line) k.0 h.0)
one_line_fault line r q (inr h) (inr k) = formed line r q h.1 k.1
