use Rattle.std.proofs.Common.{◌≡◌, refl, ap, sym, subst}
use Rattle.std.proofs.lemmas.Result.{on_ok_weaker}
use Rattle.grid_index.specs.Nodes.{NodeView}
use Rattle.grid_index.specs.Squares.{IsBetween, IsTaken}
use Rattle.grid_index.proofs.Members.{gained}
use Rattle.grid_index.proofs.Stays.{leaf_items, stays_through}
use Rattle.grid_index.proofs.node.Node.put_whole.Goals as goal

pub divide-requires-clause-between : goal.divide-requires-clause-between
divide-requires-clause-between c = subst (IsBetween c.in-Some.digit c.args.middle.now)
    (sym (leaf_items _ c.args.self.now c.self.inside.placed.items c.self.inside.quarters.items c.self.view_is refl refl c.requires.leaf))
    (rw c.deref.ensures.value at c.in-Some.ensures.some).1

pub returns-in-None-clause-ok : goal.returns-in-None-clause-ok
returns-in-None-clause-ok c = on_ok_weaker c.push.result (λ e. gained c.args.self.now.items c.push.new.self.items c.args.placed.now e) c.push.ensures.items

pub returns-in-None-clause-part : goal.returns-in-None-clause-part
returns-in-None-clause-part c =
    let first : c.self.inside.middle ≡ c.args.self.now.middle = ap (λ (n : NodeView). n.middle) c.self.view_is in
    let taken = subst (λ a. IsTaken c.args.self.now.items a c.args.middle.now) first
    (subst (λ l. IsTaken l c.self.inside.middle c.args.middle.now) (sym (leaf_items _ c.args.self.now c.self.inside.placed.items
    c.self.inside.quarters.items c.self.view_is refl refl c.requires.leaf)) (rw c.deref.ensures.value at c.in-None.ensures.none)) in
    stays_through c.push.result c.args.self.now c.push.new.self c.args.middle.now c.args.placed.now c.requires.middle c.requires.on_grid c.requires.leaf
    taken c.push.ensures.items c.push.ensures.middle c.push.ensures.leaf c.push.ensures.err
