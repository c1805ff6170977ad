-- What is found of a text is all that there is to find.
use Rattle.std.proofs.Common.{ℕ, ◌≡◌, List, Result, Ok, Err, refl}
use Rattle.std.specs.Prelude.{MatchResult, IfOk}
use Rattle.topology_terms.specs.Project.{Project}
use Rattle.project_terms.specs.declared.project_cause.ProjectCause.{ProjectCause}
use Rattle.project_terms.specs.Texts.{IsProjectText, IsRead, IsFault}
use Rattle.project_text.specs.Reading.{IsProjectFault, IsFaultAt}
use Rattle.project_text.specs.declared.fault.ProjectFault.{ProjectFault}
use Rattle.project_text.specs.declared.fault.ProjectFault.TheVariants as fault
use Rattle.project_text.proofs.OneText.{one_project, no_project, one_fault}
use Rattle.project_text.proofs.Grammar.{project_text, text_project}

abbrev pub IsFound : List ℕ → Result Project ProjectFault → Type 0
IsFound t r = MatchResult r (λ p. IsRead t p) (λ e. IsProjectFault t e)

pub text : (t : List ℕ) (r : Result Project ProjectFault) → IsFound t r → IfOk r (λ p. IsProjectText t p)
text t (Ok q) h = project_text t q h
text t (Err e) h = tt

pub only : (t : List ℕ) (r : Result Project ProjectFault) → IsFound t r → (p : Project) → IsRead t p
    → MatchResult r (λ q. q ≡ p) (λ e. e ≡ fault.NoMemory)
only t (Ok q) h p k = one_project t q p h k
only t (Err (fault.Wrong n c)) h p k = absurd (no_project t p n c k h)
only t (Err fault.NoMemory) h p k = refl

pub again : (t : List ℕ) (r : Result Project ProjectFault) → IsFound t r → (p : Project) → IsProjectText t p
    → MatchResult r (λ q. q ≡ p) (λ e. e ≡ fault.NoMemory)
again t r h p k = only t r h p (text_project t p k)

pub first : (t : List ℕ) (r : Result Project ProjectFault) → IsFound t r → (n : ℕ) (c : ProjectCause) → IsFault t n c
    → MatchResult r (λ q. ⊥) (λ e. IsFaultAt n c e)
first t (Ok q) h n c k = no_project t q n c h k
first t (Err (fault.Wrong m b)) h n c k = one_fault t m n b c h k
first t (Err fault.NoMemory) h n c k = tt
