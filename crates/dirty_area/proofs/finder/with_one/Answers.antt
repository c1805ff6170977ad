use Rattle.std.proofs.Common.{subst, sym, ◌∙◌}
use Rattle.std.proofs.lemmas.Option.{same_Some}
use Rattle.grid_index.specs.Near.{Gains}
use Rattle.dirty_area.specs.Indexed.{placed_at}
use Rattle.dirty_area.proofs.finder.with_one.Goals as goal

pub returns-in-Ok-clause-some : goal.returns-in-Ok-clause-some
returns-in-Ok-clause-some c = λ ps e.
    subst (λ os. Gains os c.put.new.self (placed_at c.args.place c.args.r.now)) (same_Some c.in_ok-index.index ps (sym c.in_ok-index.was ∙ e))
    (subst (λ p. Gains c.in_ok-index.index c.put.new.self p) c.placed_of.ensures c.in-Ok.ensures.ok)
