use Rattle.std.proofs.Common.{◌∙◌, ap, sym, subst}
use Rattle.topology_terms.specs.Settled.{IsSettled}
use Rattle.topology_terms.specs.Sound.{IsSound}
use Rattle.script_terms.specs.State.{State, OfAll, started}
use Rattle.command_answers.proofs.world.World.new.Goals as goal

pub returns-clause-empty : goal.returns-clause-empty
returns-clause-empty c = c.of.ensures ∙ ap started c.new.ensures.empty

pub returns-clause-sound : goal.returns-clause-sound
returns-clause-sound c = subst (λ (z : State). OfAll IsSound z) (sym c.of.ensures) (c.new.ensures.sound, tt)

pub returns-clause-settled : goal.returns-clause-settled
returns-clause-settled c = subst (λ (z : State). OfAll IsSettled z) (sym c.of.ensures) (c.new.ensures.settled, tt)
