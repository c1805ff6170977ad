-- The text of a project: what it says, or its first wrong line.
--
-- IsProjectText t p     t is a text of the project p, which a text can say: the grammar, both ways. A project has one text of format 2, and
--                       one of format 1 exactly where it has no subtype; and a text has one project
-- IsReading t r         r is what comes of the text t of a shape
-- IsLineVerdict d fs v  v is the verdict on a line of these fields behind the draft d
-- IsVerdict d l v       the same, on the line l
-- IsInner l             no LF is in l
-- ended l               the line with its LF
-- AreRead d ls e        of the lines ls each is right in its turn, and they bring the draft d to e
-- IsRead t p            all lines of the text are right, the last is the end, and they say the project p
-- IsWrong d rest c      what comes next behind the draft d is wrong: something stands behind the end; or the text ends before the next
--                       line or within it; or the line is wrong, for the cause c
-- IsFault t n c         the line n, counted from 1, is the first that is wrong, and c is its first cause
--
-- `IsProjectText` says what a text means by how it is written, `IsRead` by how it is read, line by line: the reader of projects proves
-- them the same. Source: own.
use Rattle.std.specs.Prelude.{ℕ, ◌≡◌, ◌≢◌, ◌+◌, ◌<◌, ◌≤◌, ◌⊎◌, ◌==◌, Bool, true, not, List, [], ◌∷◌, ◌++◌, length, flat_map, Ok, Err, IfSome}
use Rattle.std.specs.List.{list_all}
use Rattle.plane_terms.specs.Lists.{Every}
use Rattle.plane_terms.specs.Shape.{Shape}
use Rattle.wkt_terms.specs.Shapes.{IsShapeText, shape_text}
use Rattle.wkt_terms.specs.WktFaults.{IsWktFault}
use Rattle.wkt_terms.specs.declared.wkt_fault.WktFault.{WktFault}
use Rattle.wkt_terms.specs.declared.wkt_fault.WktFault.TheVariants as text
use Rattle.topology_terms.specs.Project.{Project}
use Rattle.project_terms.specs.declared.stage.Stage.TheVariants as stage
use Rattle.project_terms.specs.declared.project_cause.ProjectCause.{ProjectCause}
use Rattle.project_terms.specs.declared.project_cause.ProjectCause.TheVariants as cause
use Rattle.project_terms.specs.Lines.{fields}
use Rattle.project_terms.specs.Written.{project_text, text_of}
use Rattle.project_terms.specs.Records.{IsRecord, IsPlain}
use Rattle.project_terms.specs.Drafts.{Draft, start}
use Rattle.project_terms.specs.Verdicts.{Verdict, WktReading, Unwritten, Refused, Written, line_verdict, wkt_of}

pub record IsProjectText (t : List ℕ) (p : Project) : Type 0 where
  pub record_of : IsRecord p
  pub text : (t ≡ project_text p) ⊎ (IsPlain p × (t ≡ text_of 1 p))

-- ---- shapes

pub record IsWritten (t : List ℕ) (s : Shape) : Type 0 where
  pub short : length t ≤ 1048576
  pub says : IsShapeText t s
  pub written : t ≡ shape_text s

abbrev pub IsUnwritten : List ℕ → Type 0
IsUnwritten t = (1048576 < length t) ⊎ (((at : ℕ) × IsWktFault t (text.Syntax at)) ⊎ ((s : Shape) × IsShapeText t s × (t ≢ shape_text s)))

-- a fault that a shape's text has beside its syntax
abbrev pub IsRefusal : WktFault → Type 0
IsRefusal (text.Syntax at) = ⊥
IsRefusal text.NoMemory = ⊥
IsRefusal other = Unit {0}

abbrev pub IsRefused : List ℕ → Type 0
IsRefused t = (length t ≤ 1048576) × ((fault : WktFault) × IsWktFault t fault × IsRefusal fault)

abbrev pub IsReading : List ℕ → WktReading → Type 0
IsReading t Unwritten = IsUnwritten t × ((s : Shape) → IsWritten t s → ⊥)
IsReading t Refused = IsRefused t × ((s : Shape) → IsWritten t s → ⊥)
IsReading t (Written s) = IsWritten t s × ((u : Shape) → IsShapeText t u → u ≡ s)

-- ---- lines

abbrev pub IsLineVerdict : Draft → List (List ℕ) → Verdict → Type 0
IsLineVerdict d fs v = (r : WktReading) × IfSome (wkt_of d fs) (λ t. IsReading t r) × (v ≡ line_verdict r d fs)

abbrev pub IsVerdict : Draft → List ℕ → Verdict → Type 0
IsVerdict d l v = IsLineVerdict d (fields l) v

abbrev pub is_inner : ℕ → Bool
is_inner b = not (b == 10)

abbrev pub IsInner : List ℕ → Type 0
IsInner l = list_all is_inner l ≡ true

abbrev pub ended : List ℕ → List ℕ
ended l = l ++ 10 ∷ []

abbrev pub AreRead : Draft → List (List ℕ) → Draft → Type 0
AreRead d [] e = d ≡ e
AreRead d (l ∷ ls) e = (m : Draft) × IsVerdict d l (Ok m) × AreRead m ls e

-- the text begins with these lines, and they bring the draft d to e; then this is left
pub record Begins (t : List ℕ) (d : Draft) (ls : List (List ℕ)) (e : Draft) (rest : List ℕ) : Type 0 where
  pub inner : Every IsInner ls
  pub text : t ≡ flat_map ended ls ++ rest
  pub read : AreRead d ls e

abbrev pub IsRead : List ℕ → Project → Type 0
IsRead t p = (ls : List (List ℕ)) × (d : Draft) × Begins t start ls d [] × (d.stage ≡ stage.End) × (d.project ≡ p)

pub record IsWrongLine (d : Draft) (rest : List ℕ) (c : ProjectCause) : Type 0 where
  pub line : List ℕ
  pub more : List ℕ
  pub inner : IsInner line
  pub text : rest ≡ ended line ++ more
  pub verdict : IsVerdict d line (Err c)

abbrev pub IsWrong : Draft → List ℕ → ProjectCause → Type 0
IsWrong d rest c = ((d.stage ≡ stage.End) × (rest ≢ []) × (c ≡ cause.Form)) ⊎
    ((d.stage ≢ stage.End) × ((IsInner rest × (c ≡ cause.Short)) ⊎ IsWrongLine d rest c))

pub record IsFault (t : List ℕ) (n : ℕ) (c : ProjectCause) : Type 0 where
  pub lines : List (List ℕ)
  pub draft : Draft
  pub rest : List ℕ
  pub begins : Begins t start lines draft rest
  pub number : n ≡ length lines + 1
  pub wrong : IsWrong draft rest c
