-- Steps that fit one another and the features.
--
-- kept_of s          what is kept of a session: of a done step its `before`, of an undone one its `after`
-- IsChained at s     the rest of each step is told by the others, and by what stands: the `after` of a done step is the `before` of the
--                    next
--                    done one of its handle, or stands there; the `before` of an undone step is the `after` of the last earlier undone
--                    one, or stands there
-- IsBelow n s        each step's handle is below n
use Rattle.std.specs.Prelude.{◌≡◌, ◌<◌, ℕ, Option, map}
use Rattle.plane_terms.specs.Lists.{Every}
use Rattle.topology_terms.specs.Feature.{Feature}
use Rattle.topology_terms.specs.Session.{EditStep, Session}
use Rattle.session_terms.specs.Kept.{KeptStep, KeptSession, seen_session}

abbrev pub kept_before : EditStep → KeptStep
kept_before t = record { handle = t.handle; kept = t.before }

abbrev pub kept_after : EditStep → KeptStep
kept_after t = record { handle = t.handle; kept = t.after }

abbrev pub kept_of : Session → KeptSession
kept_of s = record { name = s.name; done = map kept_before s.done; undone = map kept_after s.undone; room = 0 }

abbrev pub IsChained : (ℕ → Option Feature) → Session → Type 0
IsChained at s = seen_session at (kept_of s) ≡ s

pub record IsBelow (n : ℕ) (s : Session) : Type 0 where
  pub done : Every (λ (t : EditStep). t.handle < n) s.done
  pub undone : Every (λ (t : EditStep). t.handle < n) s.undone
