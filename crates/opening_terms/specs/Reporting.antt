-- How the words `report PROJECT` end.
--
-- EndsReported p k status          the project p was opened, and the words end with this status
--   Done                 its report was written
--   WriteFault           the sink's count of faults rose; a prefix of the report was written
--   NoMemory             out of memory: the same
--   others               never
-- EndsAsReport name h k status     such a project stands under the name; or none was opened
-- IsReportComplete name h k code   where the shelf tells of a project under the name and no count of faults rises, its whole report is
--                                  written and the status is 0, or it is 5
--
-- Source: own.
use Rattle.std.specs.Prelude.{ℕ, ◌≡◌, ◌⊎◌, List}
use Rattle.std.specs.Io.KnownBytes.{Appends}
use Rattle.topology_terms.specs.Project.{Project}
use Rattle.outside_terms.specs.Faults.{Rose}
use Rattle.outside_terms.specs.Reads.{Passage}
use Rattle.outside_terms.specs.Shelves.{Visit}
use Rattle.outside_terms.specs.declared.status.Status.{Status}
use Rattle.outside_terms.specs.declared.status.Status.TheVariants as status
use Rattle.script_terms.specs.Report.{report_of}
use Rattle.opening_terms.specs.Opening.{IsUnder, IsToldUnder, WritesSomeOf, EndsUnopened}

abbrev pub EndsReported : Project → Passage → Status → Type 0
EndsReported p k status.Done = Appends k.old k.new (report_of p.rules p.entries)
EndsReported p k status.WriteFault = Rose k.before k.now × WritesSomeOf (report_of p.rules p.entries) k
EndsReported p k status.NoMemory = WritesSomeOf (report_of p.rules p.entries) k
EndsReported p k other = ⊥

abbrev pub EndsAsReport : List ℕ → Visit → Passage → Status → Type 0
EndsAsReport name h k status = ((p : Project) × IsUnder h.old name p × EndsReported p k status) ⊎ EndsUnopened name h k status

abbrev pub IsReportComplete : List ℕ → Visit → Passage → ℕ → Type 0
IsReportComplete name h k code = (p : Project) → IsToldUnder h.old name p → ¬ (Rose h.before h.now) → ¬ (Rose k.before k.now)
    → ((code ≡ 0) × Appends k.old k.new (report_of p.rules p.entries)) ⊎ (code ≡ 5)
