-- What is said of what a check found.
--
-- checked_text found, checked_status found     the line and the status
use Rattle.std.specs.Prelude.{ℕ, List, Option, Some, None}
use Rattle.outside_terms.specs.declared.status.Status.{Status}
use Rattle.outside_terms.specs.declared.status.Status.TheVariants as status
use Rattle.project_check.specs.declared.check.Unsound.{Unsound}
use Rattle.opening_terms.specs.Checking.{sound_text, unsound_text}

abbrev pub checked_text : Option Unsound → List ℕ
checked_text None = sound_text
checked_text (Some u) = unsound_text u.rule u.subject

abbrev pub checked_status : Option Unsound → Status
checked_status None = status.Done
checked_status (Some u) = status.Unsound
