use Rattle.std.proofs.lemmas.Result.{on_ok_weaker}
use Rattle.grid_index.proofs.Parts.{leaf_at, gathered_at, gathered_added}
use Rattle.grid_index.proofs.siblings.push_in.Goals as goal

pub push_at-requires-clause-leaf : goal.push_at-requires-clause-leaf
push_at-requires-clause-leaf c = leaf_at c.args.digit c.requires.leaves.0 c.of-middle.result c.args.nodes.now.items c.in-Some.i
    c.requires.leaves.1 (rw c.deref.ensures.value at c.in-Some.ensures.some)

pub returns-in-Some-clause-leaves : goal.returns-in-Some-clause-leaves
returns-in-Some-clause-leaves c = on_ok_weaker c.push_at.result
    (λ pushed. λ n h. gathered_at c.args.digit n c.args.nodes.now.items c.in-Some.i c.push_at.new.nodes.items c.args.placed.now c.of-middle.result
    c.of-middle.ensures.value c.of-middle.ensures.on_grid
    (rw c.deref.ensures.value at c.in-Some.ensures.some) pushed h) c.push_at.ensures.pushed

pub returns-in-None-clause-leaves : goal.returns-in-None-clause-leaves
returns-in-None-clause-leaves c = on_ok_weaker c.add_node.result
    (λ added. λ n h. gathered_added c.args.digit n c.args.nodes.now.items c.add_node.new.nodes.items c.args.placed.now c.of-middle.result
    c.of-middle.ensures.value (rw c.deref.ensures.value at c.in-None.ensures.none) added h) c.add_node.ensures.added
