use Rattle.std.proofs.Common.{subst}
use Rattle.grid_index.specs.Near.{Loses}
use Rattle.dirty_area.proofs.finder.take_held.Goals as goal

pub returns-then-holds_rect-clause-held : goal.returns-then-holds_rect-clause-held
returns-then-holds_rect-clause-held c = λ t. subst (λ p. Loses c.args.index.now c.take.new.self p) c.placed_of.ensures c.take.ensures
