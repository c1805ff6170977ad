-- How the words `replay PROJECT` end.
--
-- IsStart held name p          a replay of this name starts from the project p: from the empty one, where the name is `-`, and else from
--                              the one that stands under the name
-- start_of p                   the state that it starts from: the project as `default`, no other version, no session
-- EndsAsReplayOf name s h k status     of the shelf h: it ends as a replay from its start; or the name is not `-`, and no project was opened
-- IsToldStart held name p      the start, where the shelf tells of it
-- IsReplayOfComplete name s h k code     from a start that is told, with no count of faults rising:
--   whole                a script that is told, within the limit, is answered whole, and the status is 0 or 1; or it is 5
--   long                 of a longer one the lines within the limit are answered, and the status is 10; or it is 5
--
-- In every state of a run from a sound start the headline holds, and from a sound and settled one the invariant (`WritesRun`). Source: own.
use Rattle.std.specs.Prelude.{ℕ, ◌≡◌, ◌≢◌, ◌≤◌, ◌<◌, ◌⊎◌, Bool, true, false, List, codes, length, take, Option, Some}
use Rattle.topology_terms.specs.Project.{Project, empty_project}
use Rattle.outside_terms.specs.Faults.{Rose}
use Rattle.outside_terms.specs.Reads.{Passage, script_limit}
use Rattle.outside_terms.specs.Shelves.{Held, Visit}
use Rattle.outside_terms.specs.declared.end.End.TheVariants.{AtEnd, TooLong}
use Rattle.outside_terms.specs.declared.status.Status.{Status}
use Rattle.script_terms.specs.State.{State, started}
use Rattle.script_terms.specs.Ends.{Replays, EndsFrom}
use Rattle.opening_terms.specs.Opening.{IsUnder, IsToldUnder, EndsUnopened}

abbrev pub IsStart : Option Held → List ℕ → Project → Type 0
IsStart held name p = ((name ≡ codes "-") × (p ≡ empty_project)) ⊎ ((name ≢ codes "-") × IsUnder held name p)

abbrev pub start_of : Project → State
start_of p = started p

abbrev pub EndsAsReplayOf : List ℕ → Passage → Visit → Passage → Status → Type 0
EndsAsReplayOf name s h k status = ((p : Project) × IsStart h.old name p × EndsFrom (start_of p) s k status)
    ⊎ ((name ≢ codes "-") × EndsUnopened name h k status)

-- ---- where nothing fails

abbrev pub IsToldStart : Option Held → List ℕ → Project → Type 0
IsToldStart held name p = ((name ≡ codes "-") × (p ≡ empty_project)) ⊎ ((name ≢ codes "-") × IsToldUnder held name p)

pub record IsReplayOfComplete (name : List ℕ) (s : Passage) (h : Visit) (k : Passage) (code : ℕ) : Type 0 where
  pub whole : (p : Project) → IsToldStart h.old name p → (script : List ℕ) → s.old ≡ Some script → length script ≤ script_limit
      → ¬ (Rose s.before s.now) → ¬ (Rose h.before h.now) → ¬ (Rose k.before k.now)
      → ((code ≡ 0) × Replays (start_of p) s k script AtEnd false) ⊎ (((code ≡ 1) × Replays (start_of p) s k script AtEnd true) ⊎ (code ≡ 5))
  pub long : (p : Project) → IsToldStart h.old name p → (script : List ℕ) → s.old ≡ Some script → script_limit < length script
      → ¬ (Rose s.before s.now) → ¬ (Rose h.before h.now) → ¬ (Rose k.before k.now)
      → ((code ≡ 10) × ((refused : Bool) × Replays (start_of p) s k (take script_limit script) TooLong refused)) ⊎ (code ≡ 5)
