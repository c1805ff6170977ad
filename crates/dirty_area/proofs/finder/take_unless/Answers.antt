use Rattle.std.proofs.Common.{subst}
use Rattle.grid_index.specs.Near.{Loses}
use Rattle.dirty_area.proofs.finder.take_unless.Goals as goal

pub returns-then-not-has-clause-other : goal.returns-then-not-has-clause-other
returns-then-not-has-clause-other c = λ t. subst (λ p. Loses c.args.index.now c.take.new.self p) c.placed_of.ensures c.take.ensures
