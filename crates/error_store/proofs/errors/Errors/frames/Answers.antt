use Rattle.std.proofs.Common.{subst}
use Rattle.error_store.specs.Frames.{AreFrames}
use Rattle.error_store.proofs.errors.Errors.frames.Goals as goal

pub returns-clause-only : goal.returns-clause-only
returns-clause-only c = subst (AreFrames c.self.inside.frames) c.self.view_is c.self.invariant.3
