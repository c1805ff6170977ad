-- How the words `replay PROJECT TARGET` end.
--
-- Saves h target p             the text of the project p, in format 2, was put on the shelf h under this name, and the other names have what
--                              they had
-- SavesRun start target s h k kept refused     this, all of the source s, was replayed from the start, and the project of `default` in the last state
--                              was saved. It is sound where the start was, and settled where the start was that too
-- FailsToSave start target s h k     all of the source was replayed; the shelf's count of faults rose in this call, and the other
--                              names have what they had
-- EndsSaving start target s h k status     a replay from this start, with a target, ends with this status
--   Done, Refused        all was replayed and saved, and no line, or some line, was refused
--   SaveFault            all was replayed and the shelf failed
--   others               it ends so without a target, and the shelf holds what it held
-- EndsAsReplayTo name target s h k status     such a replay from its start; or the name is not `-`, no project was opened, and the shelf holds
--                              what it held
-- IsReplayToComplete name target s h k code     from a start that is told, with no count of faults rising:
--   whole                a script that is told, within the limit, is replayed whole and the last state saved, and the status is 0 or 1; or
--                        it is 5
--   long                 of a longer one the lines within the limit are answered, the shelf holds what it held, and the status is 10; or
--                        it is 5
--
-- Source: own.
use Rattle.std.specs.Prelude.{ℕ, ◌≡◌, ◌≢◌, ◌≤◌, ◌<◌, ◌⊎◌, Bool, true, false, List, codes, length, take, Some}
use Rattle.topology_terms.specs.Project.{Project}
use Rattle.topology_terms.specs.Sound.{IsSound}
use Rattle.topology_terms.specs.Settled.{IsSettled}
use Rattle.project_terms.specs.Written.{project_text}
use Rattle.project_terms.specs.Texts.{IsProjectText}
use Rattle.outside_terms.specs.Faults.{Rose}
use Rattle.outside_terms.specs.Reads.{Passage, script_limit}
use Rattle.outside_terms.specs.Shelves.{KeepsHeld, KeepsOthers, SetsHeld, Visit}
use Rattle.outside_terms.specs.declared.end.End.TheVariants.{AtEnd, TooLong}
use Rattle.outside_terms.specs.declared.status.Status.{Status}
use Rattle.outside_terms.specs.declared.status.Status.TheVariants as status
use Rattle.script_terms.specs.State.{State, OfAll, tree_of}
use Rattle.script_terms.specs.Ends.{Replays, EndsFrom}
use Rattle.script_terms.specs.Run.{last_state}
use Rattle.version_terms.specs.Versions.{root_of}
use Rattle.opening_terms.specs.Opening.{EndsUnopened}
use Rattle.opening_terms.specs.Replaying.{IsStart, IsToldStart, start_of}

pub record Saves (h : Visit) (target : List ℕ) (p : Project) : Type 0 where
  pub text : List ℕ
  pub says : IsProjectText text p
  pub format : text ≡ project_text p
  pub put : SetsHeld h.old h.new target text
  pub others : KeepsOthers h.old h.new target

pub record SavesRun (start : State) (target : List ℕ) (s : Passage) (h : Visit) (k : Passage) (kept : List ℕ) (refused : Bool) : Type 0 where
  pub all : Replays start s k kept AtEnd refused
  pub saved : Saves h target (root_of (tree_of (last_state start all.run.outcomes)))
  pub sound : OfAll IsSound start → IsSound (root_of (tree_of (last_state start all.run.outcomes)))
  pub settled : OfAll IsSound start → OfAll IsSettled start → IsSettled (root_of (tree_of (last_state start all.run.outcomes)))

pub record FailsToSave (start : State) (target : List ℕ) (s : Passage) (h : Visit) (k : Passage) : Type 0 where
  pub kept : List ℕ
  pub refused : Bool
  pub all : Replays start s k kept AtEnd refused
  pub rose : Rose h.before h.now
  pub others : KeepsOthers h.old h.new target

abbrev pub EndsSaving : State → List ℕ → Passage → Visit → Passage → Status → Type 0
EndsSaving start target s h k status.Done = (kept : List ℕ) × SavesRun start target s h k kept false
EndsSaving start target s h k status.Refused = (kept : List ℕ) × SavesRun start target s h k kept true
EndsSaving start target s h k status.SaveFault = FailsToSave start target s h k
EndsSaving start target s h k other = EndsFrom start s k other × KeepsHeld h.old h.new

abbrev pub EndsAsReplayTo : List ℕ → List ℕ → Passage → Visit → Passage → Status → Type 0
EndsAsReplayTo name target s h k status = ((p : Project) × IsStart h.old name p × EndsSaving (start_of p) target s h k status)
    ⊎ ((name ≢ codes "-") × EndsUnopened name h k status × KeepsHeld h.old h.new)

-- ---- where nothing fails

pub record IsReplayToComplete (name target : List ℕ) (s : Passage) (h : Visit) (k : Passage) (code : ℕ) : Type 0 where
  pub whole : (p : Project) → IsToldStart h.old name p → (script : List ℕ) → s.old ≡ Some script → length script ≤ script_limit
      → ¬ (Rose s.before s.now) → ¬ (Rose h.before h.now) → ¬ (Rose k.before k.now)
      → ((code ≡ 0) × SavesRun (start_of p) target s h k script false)
      ⊎ (((code ≡ 1) × SavesRun (start_of p) target s h k script true) ⊎ (code ≡ 5))
  pub long : (p : Project) → IsToldStart h.old name p → (script : List ℕ) → s.old ≡ Some script → script_limit < length script
      → ¬ (Rose s.before s.now) → ¬ (Rose h.before h.now) → ¬ (Rose k.before k.now)
      → ((code ≡ 10) × ((refused : Bool) × Replays (start_of p) s k (take script_limit script) TooLong refused) × KeepsHeld h.old h.new)
      ⊎ (code ≡ 5)
