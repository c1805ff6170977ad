-- The state of a run, as it is kept.
--
-- seen_desk p ss   the project p with the sessions ss, as they are seen
-- aside_of t        what stands aside in the tree t
-- state_of t ss     the desk of the current version of the tree, and what stands aside
-- AllMay p ss       each kept step may stand at its handle
-- IsRoomAlone name old new     the sessions are as they were, or but for room in the one of this name
-- may_stop c        the command c is done step by step, so it may stop in the midst where memory runs out: a discard, a fix, a reconcile or
--                   a post
-- IsWorld p ss      no handle has steps in two sessions, and the steps fit one another and what stands
use Rattle.std.specs.Prelude.{◌≡◌, ◌⊎◌, ℕ, Bool, true, false, List}
use Rattle.line_terms.specs.Commands.{Command, Discard, Explode, Snap, Create, Move, Reconcile, Post}
use Rattle.plane_terms.specs.Lists.{Every}
use Rattle.topology_terms.specs.Feature.{feature_at}
use Rattle.topology_terms.specs.Project.{Project}
use Rattle.session_terms.specs.Kept.{KeptSession, seen}
use Rattle.edit_session.specs.Grounds.{IsMayStand}
use Rattle.edit_session.specs.Moves.{MayAll}
use Rattle.edit_session.specs.SessionsCalls.{IsRoomMade}
use Rattle.script_terms.specs.Keeping.{IsKeeping}
use Rattle.script_terms.specs.State.{Desk, Aside, State}
use Rattle.version_terms.specs.Versions.{Tree}

abbrev pub seen_desk : Project → List KeptSession → Desk
seen_desk p ss = record { project = p; sessions = seen (feature_at p.features) ss }

abbrev pub aside_of : Tree → Aside
aside_of t = record { name = t.current.name; base = t.current.base; others = t.others }

abbrev pub state_of : Tree → List KeptSession → State
state_of t ss = record {
  project = t.current.project;
  sessions = seen (feature_at t.current.project.features) ss;
  aside = aside_of t;
}

abbrev pub AllMay : Project → List KeptSession → Type 0
AllMay p ss = Every (MayAll (IsMayStand p.classes p.next)) ss

pub record IsWorld (p : Project) (ss : List KeptSession) : Type 0 where
  pub keeping : IsKeeping (seen_desk p ss)
  pub may : AllMay p ss

abbrev pub IsRoomAlone : List ℕ → List KeptSession → List KeptSession → Type 0
IsRoomAlone name old new = (new ≡ old) ⊎ IsRoomMade name old new

abbrev pub may_stop : Command → Bool
may_stop (Discard _) = true
may_stop (Explode _ _) = true
may_stop (Snap _ _ _ _ _) = true
may_stop (Create _ _ _ _) = true
may_stop (Move _ _ _) = true
may_stop (Reconcile _) = true
may_stop (Post _) = true
may_stop _ = false
