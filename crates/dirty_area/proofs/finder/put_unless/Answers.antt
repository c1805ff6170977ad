use Rattle.std.proofs.Common.{subst}
use Rattle.std.proofs.lemmas.Result.{on_ok_weaker}
use Rattle.grid_index.specs.Near.{Gains}
use Rattle.dirty_area.proofs.finder.put_unless.Goals as goal

pub returns-clause-other : goal.returns-clause-other
returns-clause-other c = on_ok_weaker c.put.result (λ g t. subst (λ p. Gains c.args.index.now c.put.new.self p) c.placed_of.ensures g) c.put.ensures.ok
