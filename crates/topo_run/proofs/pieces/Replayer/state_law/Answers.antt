use Rattle.std.proofs.Common.{subst}
use Rattle.topology_terms.specs.Settled.{IsSettled}
use Rattle.topology_terms.specs.Sound.{IsSound}
use Rattle.script_terms.specs.Headline.{Invariant, SoundHeadline}
use Rattle.script_terms.specs.State.{OfAll}
use Rattle.topo_run.specs.Replayers.{Replaying}
use Rattle.topo_run.proofs.pieces.Replayer.state_law.Goals as goal

pub returns-clause-sound : goal.returns-clause-sound
returns-clause-sound c =
    subst (λ (z : Replaying). OfAll IsSound z.state → OfAll SoundHeadline z.state) c.self.view_is c.headline_law.ensures.sound

pub returns-clause-invariant : goal.returns-clause-invariant
returns-clause-invariant c =
    subst (λ (z : Replaying). OfAll IsSound z.state → OfAll IsSettled z.state → OfAll Invariant z.state) c.self.view_is
    c.headline_law.ensures.invariant
