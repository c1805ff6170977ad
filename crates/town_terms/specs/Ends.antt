-- How the words `town SEED N` end.
--
-- Judges s c j            in the state s the command tries j pairs of a rule and a feature; a validation alone tries any
-- IsJudgedBy s line j     the line does: its command, or none where it is at fault
-- AreJudged m s lines os n    of a run from the state s over these lines to these outcomes: with the pairs that its lines try, the count m
--                         becomes n; it stops at the greatest u64
-- listings p              the listings of cells and of features of the project p, one behind the other
-- IsTownRun seed n c refused      a run over the lines of the made town's script from the empty topology; at its end there is what c counts,
--                         and some line was refused, or none
-- EndsAsTown seed n k status      of the sink k: the words end with this status
--   Done, Refused         the summary of a run was written, in which no line, or some line, was refused
--   WriteFault            the sink's count of faults rose; a prefix of the summary of a run was written
--   NoMemory              out of memory: the same, or nothing was written
--   others                never
-- IsTownComplete seed n k code    with no fault counted the whole summary is written and the status is 0 or 1, or it is 5
--
-- In every state of the run the invariant holds. Source: own.
use Rattle.std.specs.Prelude.{ℕ, ◌≡◌, ◌⊎◌, Bool, true, false, List, [], ◌∷◌, ◌++◌, length, sum}
use Rattle.std.specs.Io.KnownBytes.{Appends}
use Rattle.text_terms.specs.Lines.{lines_of}
use Rattle.topology_terms.specs.Project.{Project}
use Rattle.topology_terms.specs.Counts.{raised}
use Rattle.line_terms.specs.Commands.{Command, Validate}
use Rattle.outside_terms.specs.Faults.{Rose}
use Rattle.outside_terms.specs.Reads.{Passage}
use Rattle.outside_terms.specs.declared.status.Status.{Status}
use Rattle.outside_terms.specs.declared.status.Status.TheVariants as status
use Rattle.script_terms.specs.State.{State, empty_state}
use Rattle.script_terms.specs.Answer.{Tries}
use Rattle.script_terms.specs.Reply.{reply_text, CellList, FeatureList}
use Rattle.script_terms.specs.Run.{Reading, Reads, Faulty, ReadsAs, Outcome, Run, any_refused, last_state, EachInvariant, EachKeeping, IsPrefix}
use Rattle.town_terms.specs.Town.{town_text}
use Rattle.town_terms.specs.Summary.{TownCounts, summary_text}

abbrev pub Judges : State → Command → ℕ → Type 0
Judges s (Validate w) j = Tries s.project w j
Judges s other j = j ≡ 0

abbrev pub ReadingJudges : State → Reading → ℕ → Type 0
ReadingJudges s (Reads c) j = Judges s c j
ReadingJudges s (Faulty r) j = j ≡ 0

pub record IsJudgedBy (s : State) (line : List ℕ) (j : ℕ) : Type 0 where
  pub reading : Reading
  pub reads : ReadsAs line reading
  pub judges : ReadingJudges s reading j

abbrev pub AreJudged : ℕ → State → List (List ℕ) → List Outcome → ℕ → Type 0
AreJudged m s [] [] n = n ≡ m
AreJudged m s [] (o ∷ os) n = ⊥
AreJudged m s (line ∷ lines) [] n = ⊥
AreJudged m s (line ∷ lines) (o ∷ os) n = (j : ℕ) × IsJudgedBy s line j × AreJudged (raised m j) o.after lines os n

abbrev pub listings : Project → List ℕ
listings p = reply_text (CellList p) ++ reply_text (FeatureList p)

pub record IsTownRun (seed n : ℕ) (c : TownCounts) (refused : Bool) : Type 0 where
  pub outcomes : List Outcome
  pub run : Run empty_state (lines_of true (town_text seed n)) outcomes
  pub any : any_refused outcomes ≡ refused
  pub invariant : EachInvariant empty_state outcomes
  pub keeping : EachKeeping empty_state outcomes
  pub features : c.features ≡ length (last_state empty_state outcomes).project.features
  pub judged : AreJudged 0 empty_state (lines_of true (town_text seed n)) outcomes c.judged
  pub errors : c.errors ≡ length (last_state empty_state outcomes).project.entries
  pub dirty : c.dirty ≡ length (last_state empty_state outcomes).project.dirt
  pub text : c.text ≡ sum (listings (last_state empty_state outcomes).project)

-- the whole summary of a run was written, or a prefix of it
pub record WritesSummary (seed n : ℕ) (k : Passage) (refused : Bool) : Type 0 where
  pub counts : TownCounts
  pub run : IsTownRun seed n counts refused
  pub written : Appends k.old k.new (summary_text counts)

pub record WritesSomeSummary (seed n : ℕ) (k : Passage) : Type 0 where
  pub counts : TownCounts
  pub refused : Bool
  pub run : IsTownRun seed n counts refused
  pub text : List ℕ
  pub is_prefix : IsPrefix text (summary_text counts)
  pub written : Appends k.old k.new text

abbrev pub EndsAsTown : ℕ → ℕ → Passage → Status → Type 0
EndsAsTown seed n k status.Done = WritesSummary seed n k false
EndsAsTown seed n k status.Refused = WritesSummary seed n k true
EndsAsTown seed n k status.WriteFault = Rose k.before k.now × WritesSomeSummary seed n k
EndsAsTown seed n k status.NoMemory = WritesSomeSummary seed n k ⊎ Appends k.old k.new []
EndsAsTown seed n k other = ⊥

abbrev pub IsTownComplete : ℕ → ℕ → Passage → ℕ → Type 0
IsTownComplete seed n k code = ¬ (Rose k.before k.now)
    → ((code ≡ 0) × WritesSummary seed n k false) ⊎ (((code ≡ 1) × WritesSummary seed n k true) ⊎ (code ≡ 5))
