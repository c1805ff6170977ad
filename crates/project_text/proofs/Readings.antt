-- What comes of the text of a shape is one thing, and so is the verdict on a line.
use Rattle.std.proofs.Common.{ℕ, ◌≡◌, ◌≤◌, inl, inr, Bool, true, false, List, [], ◌∷◌, length, Option, Some, None, Result, Ok, Err, refl, sym, ap, subst, ◌∙◌, arith}
use Rattle.std.specs.Prelude.{codes, bytes_eq, IfSome, IfOk}
use Rattle.std.proofs.lemmas.Slice.Eq.{bytes_eq-Decides}
use Rattle.std.proofs.lemmas.Bool.{cases_Bool}
use Rattle.plane_terms.specs.Shape.{Shape}
use Rattle.wkt_terms.specs.Shapes.{IsShapeText, shape_text}
use Rattle.wkt_terms.specs.WktFaults.{IsWktFault}
use Rattle.wkt_terms.specs.declared.wkt_fault.WktFault.{WktFault}
use Rattle.wkt_terms.specs.declared.wkt_fault.WktFault.TheVariants as text
use Rattle.wkt_text.proofs.OneFault.{one_fault}
use Rattle.wkt_text.proofs.Results.{one_shape, no_text_fault}
use Rattle.project_terms.specs.declared.stage.Stage.TheVariants as stage
use Rattle.project_terms.specs.Lines.{fields}
use Rattle.project_terms.specs.Drafts.{Draft, is_open}
use Rattle.project_terms.specs.Verdicts.{Verdict, WktReading, Unwritten, Refused, Written, FeatureForm, feature_of, at, wkt_in, wkt_of, line_verdict}
use Rattle.project_terms.specs.Texts.{IsWritten, IsUnwritten, IsRefusal, IsRefused, IsReading, IsVerdict}
use Rattle.project_text.specs.Reading.{IsFaulty}

-- ---- readings
no_memory : (f : WktFault) → IsRefusal f → f ≡ text.NoMemory → ⊥
no_memory f h e = let P : WktFault → Type 0 = λ g. IsRefusal g in subst P e h

no_syntax : (f : WktFault) (at : ℕ) → IsRefusal f → text.Syntax at ≡ f → ⊥
no_syntax f at h e = let P : WktFault → Type 0 = λ g. IsRefusal g in subst P (sym e) h

not_both : (t : List ℕ) → IsUnwritten t → IsRefused t → ⊥
not_both t (inl long) r = omega (arith, r.0)
not_both t (inr (inl (at, syntax))) (short, (fault, is, refusal)) =
    no_syntax fault at refusal (one_fault t (text.Syntax at) fault (λ e. cc) (no_memory fault refusal) syntax is)
not_both t (inr (inr (s, says, other))) (short, (fault, is, refusal)) = no_memory fault refusal (no_text_fault t s fault says is)

pub one_reading : (t : List ℕ) (r q : WktReading) → IsReading t r → IsReading t q → r ≡ q
one_reading t Unwritten Unwritten h k = refl
one_reading t Unwritten Refused h k = absurd (not_both t h.0 k.0)
one_reading t Unwritten (Written s) h k = absurd (h.1 s k.0)
one_reading t Refused Unwritten h k = absurd (not_both t k.0 h.0)
one_reading t Refused Refused h k = refl
one_reading t Refused (Written s) h k = absurd (h.1 s k.0)
one_reading t (Written s) Unwritten h k = absurd (k.1 s h.0)
one_reading t (Written s) Refused h k = absurd (k.1 s h.0)
one_reading t (Written s) (Written u) h k = ap Written (k.1 s h.0.says)

-- ---- verdicts
no_form : (o : Option FeatureForm) → wkt_in o ≡ None → o ≡ None
no_form None e = refl
no_form (Some f) e = cc

-- where no shape's text is looked at, what comes of it does not count
unread : (d : Draft) (fs : List (List ℕ)) (r q : WktReading) → wkt_of d fs ≡ None → line_verdict r d fs ≡ line_verdict q d fs
unread d [] r q e = refl
unread d (w ∷ fs) r q e = elim (cases_Bool (bytes_eq w (codes "feature"))) [
  | inr other ↦ rw other refl
  | inl is ↦ elim (cases_Bool (is_open stage.Features d)) [
    | inr shut ↦ let e' = rw (is, shut) at e in rw (is, shut) refl
    | inl may ↦ let none : feature_of d.typed fs ≡ None = no_form (feature_of d.typed fs) (rw (is, may) at e) in rw (is, may, none) refl
  ]
]

pub one_verdict : (d : Draft) (l : List ℕ) (v w : Verdict) → IsVerdict d l v → IsVerdict d l w → v ≡ w
one_verdict d l v w (r, h, e) (q, k, f) = e ∙ (by (wkt_of d (fields l)) refl h k ∙ sym f)
  where
    by : (o : Option (List ℕ)) → wkt_of d (fields l) ≡ o → IfSome o (λ t. IsReading t r) → IfSome o (λ t. IsReading t q)
        → line_verdict r d (fields l) ≡ line_verdict q d (fields l)
    by None o a b = unread d (fields l) r q o
    by (Some t) o a b = ap (λ x. line_verdict x d (fields l)) (one_reading t r q a b)

-- ---- what the code finds
pub written : (t : List ℕ) (s : Shape) (b : Bool) → length t ≤ 1048576 → IsShapeText t s → b ≡ bytes_eq (shape_text s) t → b ≡ true
    → IsReading t (Written s)
written t s b short says test same = (
  record { short = short; says = says; written = sym ((bytes_eq-Decides (shape_text s) t).0 (sym test ∙ same)) },
  λ u h. one_shape t u s h says,
)

pub unwritten : (t : List ℕ) (s : Shape) (b : Bool) → IsShapeText t s → b ≡ bytes_eq (shape_text s) t → b ≡ false → IsReading t Unwritten
unwritten t s b says test other =
    let differ : (u : Shape) → u ≡ s → t ≡ shape_text u → ⊥ = λ u e w.
    let k : bytes_eq (shape_text s) t ≡ true = (bytes_eq-Decides (shape_text s) t).1 (sym (w ∙ ap shape_text e)) in cc in
    (inr (inr (s, says, λ w. differ s refl w)), λ u h. differ u (one_shape t u s h.says says) h.written)

no_written : (t : List ℕ) (f : WktFault) (r : WktReading) → IsWktFault t f → IsFaulty f r → (s : Shape) → IsWritten t s → ⊥
no_written t f r is h s w = let P : WktFault → Type 0 = λ g. IsFaulty g r in subst P (no_text_fault t s f w.says is) h

pub faulty : (t : List ℕ) (f : WktFault) (r : WktReading) → length t ≤ 1048576 → IsWktFault t f → IsFaulty f r → IsReading t r
faulty t f r short is h = reading f is h (no_written t f r is h)
  where
    refused : (g : WktFault) → IsWktFault t g → IsRefusal g → r ≡ Refused → ((s : Shape) → IsWritten t s → ⊥) → IsReading t r
    refused g is refusal e none = subst (IsReading t) (sym e) ((short, (g, is, refusal)), none)

    reading : (g : WktFault) → IsWktFault t g → IsFaulty g r → ((s : Shape) → IsWritten t s → ⊥) → IsReading t r
    reading (text.Syntax at) is e none = subst (IsReading t) (sym e) (inr (inl (at, is)), none)
    reading (text.OffGrid at) is e none = refused (text.OffGrid at) is tt e none
    reading (text.OutOfReach at) is e none = refused (text.OutOfReach at) is tt e none
    reading (text.Unsupported at) is e none = refused (text.Unsupported at) is tt e none
    reading (text.NotClosed ring) is e none = refused (text.NotClosed ring) is tt e none
    reading (text.Invalid fault) is e none = refused (text.Invalid fault) is tt e none
    reading text.NoMemory is e none = absurd e

pub ok_map : {X E : Type 0} (r : Result X E) (P Q : X → Type 0) → ((x : X) → P x → Q x) → IfOk r P → IfOk r Q
ok_map (Ok x) P Q f h = f x h
ok_map (Err e) P Q f h = tt
