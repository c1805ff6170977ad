-- What a check of a project answers.
--
-- IsChecked M p found  a check of p answers found: none where p is sound, else the first rule and subject at which it is not
use Rattle.std.specs.Prelude.{Option, Some, None}
use Rattle.topology_terms.specs.Meaning.{Meaning}
use Rattle.topology_terms.specs.Project.{Project}
use Rattle.topology_terms.specs.Sound.{IsSoundUnder}
use Rattle.topology_terms.specs.Unsound.{IsFirstUnsound}
use Rattle.project_check.specs.declared.check.Unsound.{Unsound}

abbrev pub IsChecked : Meaning → Project → Option Unsound → Type 0
IsChecked M p None = IsSoundUnder M p
IsChecked M p (Some u) = IsFirstUnsound M p u.rule u.subject
