-- The verdict on a line, by its first word.
use Rattle.std.proofs.Common.{ℕ, ◌≡◌, Bool, true, false, List, ◌∷◌, Option, Some, None, Err, if◌then◌else◌, refl}
use Rattle.std.specs.Prelude.{codes, bytes_eq, IfOk}
use Rattle.std.proofs.lemmas.Slice.Eq.{bytes_eq-Decides}
use Rattle.project_terms.specs.declared.stage.Stage.{Stage}
use Rattle.project_terms.specs.declared.stage.Stage.TheVariants as stage
use Rattle.project_terms.specs.declared.project_cause.ProjectCause.TheVariants as cause
use Rattle.project_terms.specs.Drafts.{Draft, is_open, is_cell_open}
use Rattle.project_terms.specs.Verdicts.{Verdict, WktReading, at, said, judged, title_of, title_verdict, is_none, number_of, class_of, rule_of, feature_of, rect_of, error_of, cell_of, next_verdict, class_verdict, rule_verdict, feature_verdict, dirty_verdict, error_verdict, cell_verdict, line_verdict}

-- by the word that it is
pub pick : {V : Type 0} (P : V → Type 0) (w k : List ℕ) (x y : V) → (w ≡ k → P x) → P y → P (if bytes_eq w k then x else y)
pick P w k x y h g = by (bytes_eq w k) refl
  where
    by : (b : Bool) → bytes_eq w k ≡ b → P (if b then x else y)
    by true e = h ((bytes_eq-Decides w k).0 e)
    by false e = g

-- what holds of the verdict on each kind of line, and of a wrong form, holds of the verdict on the line
pub line_by : (P : Verdict → Type 0) (r : WktReading) (d : Draft) (w : List ℕ) (fs : List (List ℕ)) → P (Err cause.Form)
    → (w ≡ codes "topology" → P (at stage.Title d (judged (title_verdict d) (title_of fs))))
    → (w ≡ codes "next" → P (at stage.Next d (judged (next_verdict d) (number_of fs))))
    → (w ≡ codes "class" → P (at stage.Classes d (judged (class_verdict d) (class_of fs))))
    → (w ≡ codes "rule" → P (at stage.Rules d (judged (rule_verdict d) (rule_of d.typed fs))))
    → (w ≡ codes "feature" → P (at stage.Features d (judged (feature_verdict r d) (feature_of d.typed fs))))
    → (w ≡ codes "dirty" → P (at stage.Dirt d (judged (dirty_verdict d) (rect_of fs))))
    → (w ≡ codes "error" → P (at stage.Errors d (judged (error_verdict false d) (error_of fs))))
    → (w ≡ codes "exception" → P (at stage.Errors d (judged (error_verdict true d) (error_of fs))))
    → (w ≡ codes "cell" → P (if is_cell_open d then judged (cell_verdict d) (cell_of fs) else Err cause.Form))
    → (w ≡ codes "end" → P (at stage.End d (said stage.End d (is_none fs))))
    → P (line_verdict r d (w ∷ fs))
line_by P r d w fs none title next class rule feature dirty error exception cell end =
    pick P w (codes "topology") _ _ title (pick P w (codes "next") _ _ next (pick P w (codes "class") _ _ class
    (pick P w (codes "rule") _ _ rule (pick P w (codes "feature") _ _ feature (pick P w (codes "dirty") _ _ dirty
    (pick P w (codes "error") _ _ error (pick P w (codes "exception") _ _ exception (pick P w (codes "cell") _ _ cell
    (pick P w (codes "end") _ _ end none)))))))))

-- ---- what holds of the draft that a verdict makes
pub at_ok : (s : Stage) (d : Draft) (v : Verdict) (P : Draft → Type 0) → (is_open s d ≡ true → IfOk v P) → IfOk (at s d v) P
at_ok s d v P h = by (is_open s d) refl
  where
    by : (b : Bool) → is_open s d ≡ b → IfOk (if b then v else Err cause.Form) P
    by true e = h e
    by false e = tt

pub judged_ok : {A : Type 0} (f : A → Verdict) (o : Option A) (P : Draft → Type 0) → ((x : A) → o ≡ Some x → IfOk (f x) P)
    → IfOk (judged f o) P
judged_ok f None P h = tt
judged_ok f (Some x) P h = h x refl

pub said_ok : (s : Stage) (d : Draft) (b : Bool) (P : Draft → Type 0) → (b ≡ true → P (record d { stage = s })) → IfOk (said s d b) P
said_ok s d true P h = h refl
said_ok s d false P h = tt

pub if_ok : (b : Bool) (v w : Verdict) (P : Draft → Type 0) → (b ≡ true → IfOk v P) → (b ≡ false → IfOk w P) → IfOk (if b then v else w) P
if_ok true v w P h g = h refl
if_ok false v w P h g = g refl
