-- What every state of a run keeps of its sessions.
--
-- IsKeeping s     no handle has steps in two sessions; each step's `before` and `after` are told by the other steps of its session and by
--                 what stands; and no step is of a handle that was not given
use Rattle.plane_terms.specs.Lists.{Every}
use Rattle.topology_terms.specs.Feature.{feature_at}
use Rattle.session_terms.specs.Steps.{AreAllApart}
use Rattle.session_terms.specs.Chains.{IsChained, IsBelow}
use Rattle.script_terms.specs.State.{Desk}

pub record IsKeeping (s : Desk) : Type 0 where
  pub apart : AreAllApart s.sessions
  pub chained : Every (IsChained (feature_at s.project.features)) s.sessions
  pub given : Every (IsBelow s.project.next) s.sessions
