-- What is said, and how the words end then.
use Rattle.std.proofs.Common.{ℕ, List, Option, None, Some, inl, inr, refl, sym, subst}
use Rattle.topology_terms.specs.Poster.{poster}
use Rattle.topology_terms.specs.Project.{Project}
use Rattle.outside_terms.specs.Reads.{Passage}
use Rattle.outside_terms.specs.Shelves.{Visit}
use Rattle.outside_terms.specs.declared.status.Status.{Status}
use Rattle.outside_terms.specs.declared.status.Status.TheVariants as status
use Rattle.project_terms.specs.declared.project_cause.ProjectCause.{ProjectCause}
use Rattle.project_check.specs.Checked.{IsChecked}
use Rattle.project_check.specs.declared.check.Unsound.{Unsound}
use Rattle.opening_terms.specs.Opening.{IsWrongUnder, EndsUnopened, wrong_text}
use Rattle.opening_terms.specs.Checking.{EndsChecked, sound_text, unsound_text}
use Rattle.opening_terms.specs.Reporting.{EndsReported}
use Rattle.script_terms.specs.Report.{report_of}
use Rattle.topo_run.specs.Unopened.{Says}
use Rattle.topo_run.specs.Verdicts.{checked_text, checked_status}

pub wrong_said : (name : List ℕ) (h : Visit) (k : Passage) (n : ℕ) (c : ProjectCause) (t : Status) → IsWrongUnder h.old name n c
    → Says (wrong_text n c) status.WrongText k t → EndsUnopened name h k t
wrong_said name h k n c t under (inl (is, written)) = subst (λ (s : Status). EndsUnopened name h k s) (sym is) (n, c, under, written)
wrong_said name h k n c t under (inr (inl (is, rose, some))) =
    subst (λ (s : Status). EndsUnopened name h k s) (sym is) (rose, (n, c, under, some))
wrong_said name h k n c t under (inr (inr (is, some))) =
    subst (λ (s : Status). EndsUnopened name h k s) (sym is) (inl (n, c, under, some))

pub checked_said : (p : Project) (found : Option Unsound) (k : Passage) (t : Status) → IsChecked poster p found
    → Says (checked_text found) (checked_status found) k t → EndsChecked p k t
checked_said p None k t sound (inl (is, written)) = subst (λ (s : Status). EndsChecked p k s) (sym is) (sound, written)
checked_said p None k t sound (inr (inl (is, rose, some))) =
    subst (λ (s : Status). EndsChecked p k s) (sym is) (rose, (sound_text, inl (sound, refl), some))
checked_said p None k t sound (inr (inr (is, some))) =
    subst (λ (s : Status). EndsChecked p k s) (sym is) (inl (sound_text, inl (sound, refl), some))
checked_said p (Some u) k t first (inl (is, written)) =
    subst (λ (s : Status). EndsChecked p k s) (sym is) (u.rule, u.subject, first, written)
checked_said p (Some u) k t first (inr (inl (is, rose, some))) =
    subst (λ (s : Status). EndsChecked p k s) (sym is) (rose, (unsound_text u.rule u.subject, inr (u.rule, u.subject, first, refl), some))
checked_said p (Some u) k t first (inr (inr (is, some))) =
    subst (λ (s : Status). EndsChecked p k s) (sym is) (inl (unsound_text u.rule u.subject, inr (u.rule, u.subject, first, refl), some))

pub reported_said : (p : Project) (k : Passage) (t : Status) → Says (report_of p.rules p.entries) status.Done k t → EndsReported p k t
reported_said p k t (inl (is, written)) = subst (λ (s : Status). EndsReported p k s) (sym is) written
reported_said p k t (inr (inl (is, rose, some))) = subst (λ (s : Status). EndsReported p k s) (sym is) (rose, some)
reported_said p k t (inr (inr (is, some))) = subst (λ (s : Status). EndsReported p k s) (sym is) some
