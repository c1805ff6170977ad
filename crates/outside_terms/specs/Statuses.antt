-- The exit statuses.
--
-- code_of status           the number of the status
-- status_of end refused    the status after all lines were answered, by how the reading ended and whether one was refused
use Rattle.std.specs.Prelude.{ℕ, Bool, if◌then◌else◌}
use Rattle.outside_terms.specs.declared.end.End.{End}
use Rattle.outside_terms.specs.declared.end.End.TheVariants.{AtEnd, Failed, TooLong}
use Rattle.outside_terms.specs.declared.status.Status.{Status}
use Rattle.outside_terms.specs.declared.status.Status.TheVariants as status

abbrev pub code_of : Status → ℕ
code_of status.Done = 0
code_of status.Refused = 1
code_of status.Usage = 2
code_of status.ReadFault = 3
code_of status.WriteFault = 4
code_of status.NoMemory = 5
code_of status.WrongText = 6
code_of status.OpenFault = 7
code_of status.SaveFault = 8
code_of status.Unsound = 9
code_of status.TooLong = 10
code_of status.NoProject = 11

abbrev pub status_of : End → Bool → Status
status_of AtEnd refused = if refused then status.Refused else status.Done
status_of Failed refused = status.ReadFault
status_of TooLong refused = status.TooLong
