use Rattle.std.proofs.Common.{subst}
use Rattle.topology_terms.specs.Project.{IsOrdered}
use Rattle.topology_terms.specs.Settled.{IsSettled}
use Rattle.topology_terms.specs.Sound.{IsSound}
use Rattle.script_terms.specs.Headline.{SoundHeadline, Invariant}
use Rattle.script_terms.specs.Keeping.{IsKeeping}
use Rattle.script_terms.specs.State.{State, OfAll, desk_of}
use Rattle.command_answers.proofs.AllVersions.{all_invariant, all_ordered, all_sound}
use Rattle.command_answers.proofs.world.World.headline_law.Goals as goal

pub returns-clause-sound : goal.returns-clause-sound
returns-clause-sound c = subst (λ (q : State). OfAll IsSound q → OfAll SoundHeadline q) c.self.view_is
    (all_sound c.poster_law.ensures.laws c.self.inside.tree c.self.inside.sessions c.topologies_law.ensures)

pub returns-clause-invariant : goal.returns-clause-invariant
returns-clause-invariant c = subst (λ (q : State). OfAll IsSound q → OfAll IsSettled q → OfAll Invariant q) c.self.view_is
    (all_invariant c.poster_law.ensures.laws c.self.inside.tree c.self.inside.sessions c.topologies_law.ensures)

pub returns-clause-ordered : goal.returns-clause-ordered
returns-clause-ordered c = subst (λ (q : State). OfAll IsOrdered q) c.self.view_is
    (all_ordered c.self.inside.tree c.self.inside.sessions c.topologies_law.ensures)

pub returns-clause-keeping : goal.returns-clause-keeping
returns-clause-keeping c = subst (λ (q : State). IsKeeping (desk_of q)) c.self.view_is c.self.invariant.keeping
