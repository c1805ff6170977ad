use Rattle.std.proofs.Common.{[], ◌≡◌, ◌≢◌, subst, ◌∷◌, ◌++◌, ap, ◌∙◌, sym}
use Rattle.std.proofs.lemmas.List.{append-nil}
use Rattle.grid_index.specs.Near.{Gains}
use Rattle.grid_index.specs.Nodes.{NodeView, all_items}
use Rattle.grid_index.proofs.Members.{gained}
use Rattle.grid_index.proofs.Nodes.{gained_left, none_below}
use Rattle.grid_index.proofs.Reaches.{reach_gained}
use Rattle.grid_index.proofs.Parts.{none_divided}
use Rattle.grid_index.proofs.node.Node.push.Goals as goal

none : (c : goal.After-self-3-1) → c.self.inside.quarters.items ≡ []
none c = none_below c.self.inside.quarters.items (ap (λ (n : NodeView). n.height) c.self.view_is ∙ c.requires.leaf)

more : (c : goal.After-self-3-1) → Gains (c.self.inside.placed.items ++ all_items c.self.inside.quarters.items)
    (c.push_last.new.list.items ++ all_items c.self.inside.quarters.items) c.args.placed.now
more c = gained_left c.self.inside.placed.items c.push_last.new.list.items (all_items c.self.inside.quarters.items) c.args.placed.now
    (gained c.self.inside.placed.items c.push_last.new.list.items c.args.placed.now c.in_ok-push_last.ensures.ok)

pub invariant_of-self-2 : goal.invariant_of-self-2
invariant_of-self-2 c =
    let reach = reach_gained c.self.inside.reach c.join-self-inside.result (c.self.inside.placed.items ++ all_items c.self.inside.quarters.items)
    (c.push_last.new.list.items ++ all_items c.self.inside.quarters.items) c.args.placed.now c.join-self-inside.ensures.value c.self.invariant.0
    c.self.invariant.1 (subst (λ (n : NodeView). n.items ≢ []) (sym c.self.view_is) c.requires.filled) (more c) in
    (reach.0, reach.1, c.self.invariant.2, none_divided c.args.middle.now c.self.inside.digit c.push_last.new.list.items c.self.inside.quarters.items (none c))

pub returns-clause-items : goal.returns-clause-items
returns-clause-items c =
    let old : c.self.inside.placed.items ++ all_items c.self.inside.quarters.items ≡ c.args.self.now.items = ap (λ (n : NodeView). n.items) c.self.view_is in
    ap (λ ns. c.push_last.new.list.items ++ all_items ns) (none c) ∙ (append-nil c.push_last.new.list.items ∙ (c.in_ok-push_last.ensures.ok
    ∙ ap (λ ps. ps ++ c.args.placed.now ∷ []) (sym (append-nil c.self.inside.placed.items)
    ∙ (ap (λ ns. c.self.inside.placed.items ++ all_items ns) (sym (none c)) ∙ old))))
