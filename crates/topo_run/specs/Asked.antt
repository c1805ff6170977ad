-- What the words of the command line ask for, and how they end.
--
-- AsksNone ws          they are of none of the forms
-- AsksFor ws words     the words ws ask for this; IsAskedBy says the same
-- IsFit words          a town has 1 to 60 rows
-- EndsFor words s h k status     what was asked for ends with this status: of the source s, the shelf h and the sink k; EndsAsAsked says the same
-- UnlessReplay words P      P, unless a replay is asked for, which reads the source
-- UnlessNamed words P       P, unless a project is named, for which the shelf is asked
-- UnlessSaved words P       P, unless a target is named, under which the shelf is to hold the project at the end
use Rattle.std.specs.Prelude.{ℕ, ◌≡◌, ◌≤◌, List, [], ◌∷◌, codes}
use Rattle.outside_terms.specs.Reads.{Passage}
use Rattle.outside_terms.specs.Shelves.{Visit}
use Rattle.outside_terms.specs.declared.status.Status.{Status}
use Rattle.script_terms.specs.Ends.{EndsAs, EndsAsUsage}
use Rattle.opening_terms.specs.Words.{IsReplayOf, IsReplayTo, IsCheckOf, IsReportOf}
use Rattle.opening_terms.specs.Checking.{EndsAsCheck}
use Rattle.opening_terms.specs.Replaying.{EndsAsReplayOf}
use Rattle.opening_terms.specs.Saving.{EndsAsReplayTo}
use Rattle.opening_terms.specs.Reporting.{EndsAsReport}
use Rattle.town_terms.specs.Ends.{EndsAsTown}
use Rattle.town_terms.specs.Request.{IsTownRequest}
use Rattle.topo_run.specs.declared.words.Words.{Words}
use Rattle.topo_run.specs.declared.words.Words.TheVariants as words

pub record AsksNone (ws : List (List ℕ)) : Type 0 where
  pub replay : ¬ (ws ≡ codes "replay" ∷ [])
  pub replay_of : (project : List ℕ) → ¬ (IsReplayOf ws project)
  pub replay_to : (project target : List ℕ) → ¬ (IsReplayTo ws project target)
  pub check : (project : List ℕ) → ¬ (IsCheckOf ws project)
  pub report : (project : List ℕ) → ¬ (IsReportOf ws project)
  pub town : (seed n : ℕ) → ¬ (IsTownRequest ws seed n)

abbrev pub AsksFor : List (List ℕ) → Words → Type 0
AsksFor ws words.Replay = ws ≡ codes "replay" ∷ []
AsksFor ws (words.ReplayOf project) = IsReplayOf ws project.now
AsksFor ws (words.ReplayTo project target) = IsReplayTo ws project.now target.now
AsksFor ws (words.Check project) = IsCheckOf ws project.now
AsksFor ws (words.Report project) = IsReportOf ws project.now
AsksFor ws (words.Town request) = IsTownRequest ws request.seed request.rows
AsksFor ws words.Unknown = AsksNone ws

pub record IsAskedBy (ws : List (List ℕ)) (w : Words) : Type 0 where
  pub asks : AsksFor ws w

abbrev pub IsFit : Words → Type 0
IsFit (words.Town request) = (1 ≤ request.rows) × (request.rows ≤ 60)
IsFit other = Unit {0}

abbrev pub EndsFor : Words → Passage → Visit → Passage → Status → Type 0
EndsFor words.Replay s h k status = EndsAs s k status
EndsFor (words.ReplayOf project) s h k status = EndsAsReplayOf project.now s h k status
EndsFor (words.ReplayTo project target) s h k status = EndsAsReplayTo project.now target.now s h k status
EndsFor (words.Check project) s h k status = EndsAsCheck project.now h k status
EndsFor (words.Report project) s h k status = EndsAsReport project.now h k status
EndsFor (words.Town request) s h k status = EndsAsTown request.seed request.rows k status
EndsFor words.Unknown s h k status = EndsAsUsage k status

pub record EndsAsAsked (w : Words) (s : Passage) (h : Visit) (k : Passage) (status : Status) : Type 0 where
  pub ends : EndsFor w s h k status

abbrev pub UnlessReplay : Words → Type 0 → Type 0
UnlessReplay words.Replay P = Unit {0}
UnlessReplay (words.ReplayOf project) P = Unit {0}
UnlessReplay (words.ReplayTo project target) P = Unit {0}
UnlessReplay other P = P

abbrev pub UnlessNamed : Words → Type 0 → Type 0
UnlessNamed (words.ReplayOf project) P = Unit {0}
UnlessNamed (words.ReplayTo project target) P = Unit {0}
UnlessNamed (words.Check project) P = Unit {0}
UnlessNamed (words.Report project) P = Unit {0}
UnlessNamed other P = P

abbrev pub UnlessSaved : Words → Type 0 → Type 0
UnlessSaved (words.ReplayTo project target) P = Unit {0}
UnlessSaved other P = P
