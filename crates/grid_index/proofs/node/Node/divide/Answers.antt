use Rattle.std.proofs.Common.{◌≡◌, ◌≢◌, [], ◌++◌, length, refl, sym, ap, ◌∙◌, subst}
use Rattle.grid_index.specs.Near.{Gains}
use Rattle.grid_index.specs.Nodes.{NodeView, all_items}
use Rattle.grid_index.specs.Squares.{IsDivided}
use Rattle.grid_index.proofs.Nodes.{gained_divided, gains_after, none_below}
use Rattle.grid_index.proofs.Reaches.{reach_gained}
use Rattle.grid_index.proofs.Stays.{leaf_items, between_parts, divided_new, some_high, stays_grown}
use Rattle.grid_index.proofs.Snugs.{filled_gained}
use Rattle.grid_index.proofs.node.Node.divide.Goals as goal

none : (c : goal.After-drop-self-inside-2) → c.self.inside.quarters.items ≡ []
none c = none_below c.self.inside.quarters.items (ap (λ (n : NodeView). n.height) c.self.view_is ∙ c.requires.leaf)

held : (c : goal.After-drop-self-inside-2) → c.args.self.now.items ≡ c.self.inside.placed.items
held c = leaf_items _ c.args.self.now c.self.inside.placed.items c.self.inside.quarters.items c.self.view_is refl refl c.requires.leaf

more : (c : goal.After-drop-self-inside-2) → Gains (c.self.inside.placed.items ++ all_items c.self.inside.quarters.items)
    (c.new.result.items ++ all_items c.push_in.new.nodes.items) c.args.placed.now
more c = gained_divided c.self.inside.placed.items c.new.result.items c.self.inside.quarters.items c.in_ok-quarters.quarters.items
    c.push_in.new.nodes.items c.args.placed.now (none c) c.new.ensures.items (rw c.deref.ensures.value at c.in_ok-quarters.ensures.same)
    c.in_ok-push_in.ensures.ok

gains : (c : goal.After-drop-self-inside-2) → Gains c.args.self.now.items (c.new.result.items ++ all_items c.push_in.new.nodes.items) c.args.placed.now
gains c = subst (λ (n : NodeView). Gains n.items (c.new.result.items ++ all_items c.push_in.new.nodes.items) c.args.placed.now) c.self.view_is (more c)

divided : (c : goal.After-drop-self-inside-2) → IsDivided c.args.middle.now c.args.digit c.new.result.items c.push_in.new.nodes.items
divided c =
    let listed = gains_after c.self.inside.placed.items (all_items c.in_ok-quarters.quarters.items) (all_items c.push_in.new.nodes.items) c.args.placed.now
    (rw c.deref.ensures.value at c.in_ok-quarters.ensures.same) c.in_ok-push_in.ensures.ok in
    divided_new c.args.digit c.args.middle.now c.args.self.now c.self.inside.placed.items c.new.result.items c.args.placed.now
    c.push_in.new.nodes.items c.requires.digit (sym c.requires.middle) c.requires.leaf c.requires.part (held c) c.requires.between c.new.ensures.items
    (c.in_ok-push_in.ensures.leaves (length c.self.inside.placed.items) (rw c.deref.ensures.value at c.in_ok-quarters.ensures.leaves))
    (λ q h. (listed q).0 h)

pub invariant_of-self : goal.invariant_of-self
invariant_of-self c =
    let some = subst (λ (n : NodeView). n.items ≢ []) (sym c.self.view_is) (c.requires.part.1).filled in
    let reach = reach_gained c.self.inside.reach c.join-self-inside.result (c.self.inside.placed.items ++ all_items c.self.inside.quarters.items)
    (c.new.result.items ++ all_items c.push_in.new.nodes.items) c.args.placed.now c.join-self-inside.ensures.value c.self.invariant.0
    c.self.invariant.1 some (more c) in
    (reach.0, reach.1, c.requires.digit, divided c)

pub returns-clause-ok : goal.returns-clause-ok
returns-clause-ok c = gains c

pub returns-clause-part : goal.returns-clause-part
returns-clause-part c = stays_grown c.args.self.now _ c.args.middle.now c.args.placed.now c.requires.middle (gains c) c.requires.on_grid
    (λ k t. t)
    (some_high c.new.result.items c.push_in.new.nodes.items c.new.ensures.items
    (filled_gained c.args.self.now.items (c.new.result.items ++ all_items c.push_in.new.nodes.items) c.args.placed.now (gains c)))
    (λ k part t. between_parts c.args.digit c.args.middle.now c.args.self.now k c.requires.between part t)
