use Rattle.std.proofs.Common.{◌≡◌, ◌++◌, ap, ◌∙◌, sym, arith, length}
use Rattle.grid_index.specs.Nodes.{NodeView, all_items}
use Rattle.grid_index.proofs.Nodes.{none_held}
use Rattle.grid_index.proofs.Stays.{nothing, parts_filled}
use Rattle.grid_index.proofs.node.Node.is_empty.Goals as goal

pub returns-then-is_empty : goal.returns-then-is_empty
returns-then-is_empty c =
    let items : c.self.inside.placed.items ++ all_items c.self.inside.quarters.items ≡ c.args.self.now.items = ap (λ (n : NodeView). n.items) c.self.view_is in
    let placed = c.self.inside.placed.items in
    let quarters = c.self.inside.quarters.items in (
      (λ t. let none : length quarters ≡ 0 = grind arith in
          let empty : length placed ≡ 0 = grind arith in
          sym items ∙ (ap (λ ps. ps ++ all_items quarters) (nothing placed empty) ∙ ap all_items (nothing quarters none))),
      (λ e. let none = ap length (none_held placed quarters (parts_filled c.self.inside.digit quarters c.self.invariant.3.0.0.0) (items ∙ e)).1 in grind arith),
    )
