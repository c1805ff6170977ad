use Rattle.std.proofs.Common.{rules}
use Rattle.grid_index.proofs.Nodes.{items_left}
use Rattle.grid_index.proofs.Parts.{parts_left, around_left}
use Rattle.grid_index.proofs.siblings.drop_empty.Goals as goal

pub returns-clause-same : goal.returns-clause-same
returns-clause-same c = items_left _ (λ f n b g h. λ e. search rules) _ _ _ c.retain.ensures.filtered

pub returns-clause-parts : goal.returns-clause-parts
returns-clause-parts c = parts_left _ (λ f n b g h. λ e. λ s. search rules) _ _ _ c.retain.ensures.filtered

pub returns-clause-around : goal.returns-clause-around
returns-clause-around c = around_left _ _ _ _ c.retain.ensures.filtered
