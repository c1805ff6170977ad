-- What the functions of the reader answer, in the words of the grammar.
--
-- left rest           the fields behind a part of a line of which rest is left: none, or those behind its first byte, a space
-- is_single fs        there is just one field
-- plain_side, bound_side      the side that a name alone spells, or a name and digits behind a colon
-- Gives r P d         after Ok, P holds of the verdict that makes the draft d; of a wrong line, of the verdict of its cause; out of memory
--                     says nothing
-- Says r v d          after Ok the verdict v makes the draft d; of a wrong line it is the cause
-- rect_said, rule_said, feature_said, error_said      what the code's values stand for
-- IsNoHalf fs, IsHalfForm fs h     the fields do not begin with a half-plane; they begin with the half-plane h
-- IsCell c r          r is the cell c; or c is none, and the form is wrong; or a half-plane of it is beyond its limits
-- reading_of r        the reading that the code's value stands for
-- IsFaulty f r        r is what comes of a text with the fault f
-- cell_line_verdict d fs, IsFeatureVerdict d fs v     the verdict on the line of a cell; on the line of a feature
-- is_in_force rs o    o is the number of a rule in force
-- IsProjectFault t e  the line of this number is the first that is wrong, and this is its first cause; out of memory says nothing
-- at_line n f         the fault of a text whose line n has the fault f
-- IsFaultAt n c e     the fault is this line and this cause, or out of memory
use Rattle.std.specs.Prelude.{ℕ, ℤ, ◌≡◌, Bool, true, false, List, [], ◌∷◌, ◌++◌, Option, Some, None, Result, Ok, Err, IfSome, is_some, ◌⊎◌, if◌then◌else◌}
use Rattle.std.specs.List.{list_all}
use Rattle.std.specs.Option.{option_map}
use Rattle.text_terms.specs.Fields.{is_name}
use Rattle.plane_terms.specs.Rectangle.{Rectangle, rect_of as rectangle}
use Rattle.plane_terms.specs.HalfPlane.{HalfPlane}
use Rattle.plane_terms.specs.Cell.{Cell}
use Rattle.topology_terms.specs.Extents.{is_whole}
use Rattle.topology_terms.specs.Project.{InForce, rule_at}
use Rattle.wkt_terms.specs.declared.wkt_fault.WktFault.{WktFault}
use Rattle.wkt_terms.specs.declared.wkt_fault.WktFault.TheVariants as text
use Rattle.project_terms.specs.declared.project_cause.ProjectCause.{ProjectCause}
use Rattle.project_terms.specs.declared.project_cause.ProjectCause.TheVariants as cause
use Rattle.project_terms.specs.declared.stage.Stage.TheVariants as stage
use Rattle.project_terms.specs.Lines.{fields, number}
use Rattle.project_terms.specs.Drafts.{Draft, is_open, is_cell_open, is_half}
use Rattle.project_terms.specs.Verdicts.{Verdict, WktReading, Unwritten, Refused, Written, SideForm, RuleForm, FeatureForm, ErrorForm, at, judged, cell_of, cell_verdict, feature_of, feature_verdict, halves_behind, wkt_in}
use Rattle.project_terms.specs.Texts.{IsFault, IsReading}
use Rattle.project_text.specs.declared.fault.LineFault.{LineFault}
use Rattle.project_text.specs.declared.fault.LineFault.TheVariants as line
use Rattle.project_text.specs.declared.fault.ProjectFault.{ProjectFault}
use Rattle.project_text.specs.declared.fault.ProjectFault.TheVariants as fault
use Rattle.project_text.specs.declared.forms.RectForm.{RectForm}
use Rattle.project_text.specs.declared.forms.RuleForm as code_rule
use Rattle.project_text.specs.declared.forms.FeatureForm as code_feature
use Rattle.project_text.specs.declared.forms.ErrorForm as code_error
use Rattle.project_text.specs.declared.forms.HalfForm.{HalfForm}
use Rattle.project_text.specs.declared.shapes.Reading.{Reading}
use Rattle.project_text.specs.declared.shapes.Reading.TheVariants as reading

abbrev pub left : List ℕ → List (List ℕ)
left [] = []
left (b ∷ bs) = fields bs

abbrev pub is_single : List (List ℕ) → Bool
is_single (f ∷ []) = true
is_single other = false

-- a side whose field has no colon; one whose field has one
abbrev pub plain_side : List ℕ → Option SideForm
plain_side name = if is_name name then Some (record { name = name; subtype = None }) else None

abbrev pub bound_side : List ℕ → List ℕ → Option SideForm
bound_side name digits = if is_name name
    then option_map (λ (z : ℤ). record { name = name; subtype = Some z }) (number digits) else None

abbrev pub Gives : {X : Type 0} → Result X LineFault → (Verdict → Type 0) → Draft → Type 0
Gives (Ok x) P d = P (Ok d)
Gives (Err (line.Wrong c)) P d = P (Err c)
Gives (Err line.NoMemory) P d = Unit {0}

abbrev pub Says : {X : Type 0} → Result X LineFault → Verdict → Draft → Type 0
Says r v d = Gives r (λ w. w ≡ v) d

abbrev pub rect_said : RectForm → Rectangle
rect_said r = rectangle r.x0 r.y0 r.x1 r.y1

abbrev pub rule_said : code_rule.RuleForm → RuleForm
rule_said q = record { number = q.number; kind = q.kind; origin = q.origin; dest = q.dest }

abbrev pub feature_said : code_feature.FeatureForm → FeatureForm
feature_said f = record { handle = f.handle; own = f.own; wkt = f.wkt.now }

abbrev pub error_said : code_error.ErrorForm → ErrorForm
error_said e = record { rule = e.rule; subject = e.subject; other = e.other; whole = is_whole e.extent; frame = rect_said e.frame }

abbrev pub IsNoHalf : List (List ℕ) → Type 0
IsNoHalf fs = (hs : List HalfPlane) → halves_behind hs true fs ≡ None

abbrev pub half_said : HalfForm → HalfPlane
half_said h = record { a = h.a; b = h.b; c = h.c; op = h.op }

abbrev pub IsHalfForm : List (List ℕ) → HalfForm → Type 0
IsHalfForm fs h = (hs : List HalfPlane) → halves_behind hs true fs ≡ halves_behind (hs ++ half_said h ∷ []) h.more (left h.rest.now)

abbrev pub IsCell : Option Cell → Result Cell LineFault → Type 0
IsCell c (Ok made) = (c ≡ Some made) × (list_all is_half made ≡ true)
IsCell c (Err (line.Wrong k)) = ((c ≡ None) × (k ≡ cause.Form)) ⊎ ((made : Cell) × (c ≡ Some made) × (list_all is_half made ≡ false)
    × (k ≡ cause.Range))
IsCell c (Err line.NoMemory) = Unit {0}

abbrev pub reading_of : Reading → WktReading
reading_of reading.Unwritten = Unwritten
reading_of reading.Refused = Refused
reading_of (reading.Written s) = Written s

abbrev pub IsFaulty : WktFault → WktReading → Type 0
IsFaulty (text.Syntax at) r = r ≡ Unwritten
IsFaulty text.NoMemory r = ⊥
IsFaulty other r = r ≡ Refused

abbrev pub cell_line_verdict : Draft → List (List ℕ) → Verdict
cell_line_verdict d fs = if is_cell_open d then judged (cell_verdict d) (cell_of fs) else Err cause.Form

abbrev pub IsFeatureVerdict : Draft → List (List ℕ) → Verdict → Type 0
IsFeatureVerdict d fs v = (r : WktReading) × (is_open stage.Features d ≡ true → IfSome (wkt_in (feature_of d.typed fs)) (λ t. IsReading t r))
    × (v ≡ at stage.Features d (judged (feature_verdict r d) (feature_of d.typed fs)))

abbrev pub IsProjectFault : List ℕ → ProjectFault → Type 0
IsProjectFault t (fault.Wrong n c) = IsFault t n c
IsProjectFault t fault.NoMemory = Unit {0}

abbrev pub at_line : ℕ → LineFault → ProjectFault
at_line n (line.Wrong c) = fault.Wrong n c
at_line n line.NoMemory = fault.NoMemory

abbrev pub IsFaultAt : ℕ → ProjectCause → ProjectFault → Type 0
IsFaultAt n c (fault.Wrong m b) = (m ≡ n) × (b ≡ c)
IsFaultAt n c fault.NoMemory = Unit {0}

abbrev pub is_in_force : List InForce → Option ℕ → Bool
is_in_force rs None = false
is_in_force rs (Some r) = is_some (rule_at rs r)
