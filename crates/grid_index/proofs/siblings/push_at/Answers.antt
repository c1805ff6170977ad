use Rattle.std.proofs.Common.{◌≡◌, ◌≢◌, [], sym, ap, subst}
use Rattle.std.proofs.lemmas.Result.{on_ok_weaker, on_err_weaker}
use Rattle.grid_index.specs.Near.{HoldsSame, Gains}
use Rattle.grid_index.specs.Nodes.{NodeView}
use Rattle.grid_index.proofs.Members.{gained, same_held}
use Rattle.grid_index.proofs.Nodes.{gained_at, same_at}
use Rattle.grid_index.proofs.Parts.{some_is, on_ok_all, pushed_at}
use Rattle.grid_index.proofs.siblings.push_at.Goals as goal

pub push-requires : goal.push-requires
push-requires c =
    let leaf = subst (λ (n : NodeView). (n.height ≡ 0) × (n.items ≢ [])) (sym c.index_mut.ensures.value)
    (some_is c.args.nodes.now.items c.args.i c.index_mut.result.now (λ (n : NodeView). (n.height ≡ 0) × (n.items ≢ [])) c.requires.leaf).1 in
    record { leaf = leaf.0; filled = leaf.1 }

pub returns-clause-ok : goal.returns-clause-ok
returns-clause-ok c = on_ok_weaker c.push.result
    (λ e. gained_at c.args.nodes.now.items c.args.i c.index_mut.result.now c.push.new.self c.args.placed.now c.requires.within
    (subst (λ (n : NodeView). Gains n.items c.push.new.self.items c.args.placed.now) c.index_mut.ensures.value
    (gained c.index_mut.result.now.items c.push.new.self.items c.args.placed.now e))) c.push.ensures.items

pub returns-clause-pushed : goal.returns-clause-pushed
returns-clause-pushed c = on_ok_all c.push.result (λ e m h. pushed_at c.args.nodes.now.items c.args.i c.index_mut.result.now c.push.new.self
    c.args.placed.now c.args.middle.now c.requires.within c.index_mut.ensures.value e m h) c.push.ensures.items c.push.ensures.middle c.push.ensures.leaf

pub returns-clause-err : goal.returns-clause-err
returns-clause-err c = on_err_weaker c.push.result
    (λ e. same_at c.args.nodes.now.items c.args.i c.index_mut.result.now c.push.new.self c.requires.within
    (subst (λ (n : NodeView). HoldsSame n.items c.push.new.self.items) c.index_mut.ensures.value
    (same_held c.index_mut.result.now.items c.push.new.self.items (ap (λ (n : NodeView). n.items) e)))) c.push.ensures.err
