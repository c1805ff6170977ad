-- Worked rows: the lines of projects that are not opened and of checks, computed from the definitions.
use Rattle.std.proofs.Common.{◌≡◌, [], ◌∷◌, ◌++◌, refl}
use Rattle.std.specs.Prelude.{codes}
use Rattle.std.specs.Fmt.{digits}
use Rattle.project_terms.specs.declared.project_cause.ProjectCause.TheVariants as cause
use Rattle.opening_terms.specs.Opening.{wrong_text}
use Rattle.opening_terms.specs.Checking.{sound_text, unsound_text}

another_format : wrong_text 1 cause.Form ≡ codes "project refused line 1 form" ++ 10 ∷ []
unfolding digits
another_format = refl

sound : sound_text ≡ codes "sound" ++ 10 ∷ []
sound = refl

missing : unsound_text 1 1 ≡ codes "unsound 1 1" ++ 10 ∷ []
unfolding digits
missing = refl
