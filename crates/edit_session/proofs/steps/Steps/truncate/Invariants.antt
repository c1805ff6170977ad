use Rattle.std.proofs.Common.{◌≡◌, length, take}
use Rattle.edit_session.proofs.steps.Steps.truncate.Given as goal

abbrev pub invariant-loop-self : goal.invariant-loop-self
invariant-loop-self l = (take l.len l.self.items ≡ take l.len l.initial.self.items) × (l.self.room ≡ l.initial.self.room)

abbrev pub decreases-loop-self : goal.decreases-loop-self
decreases-loop-self l = length l.self.items
