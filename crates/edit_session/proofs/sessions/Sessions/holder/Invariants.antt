use Rattle.std.proofs.Common.{◌≡◌, drop}
use Rattle.session_terms.specs.KeptChanges.{kept_holder}
use Rattle.edit_session.proofs.sessions.Sessions.holder.Given as goal

abbrev pub invariant-loop-session : goal.invariant-loop-session
invariant-loop-session l = kept_holder (drop l.session-index l.self) l.fn.handle ≡ kept_holder l.self l.fn.handle
