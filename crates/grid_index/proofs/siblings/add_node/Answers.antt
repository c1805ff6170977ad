use Rattle.grid_index.proofs.Nodes.{gained_pushed}
use Rattle.grid_index.proofs.siblings.add_node.Goals as goal

pub returns-clause-ok : goal.returns-clause-ok
returns-clause-ok c = gained_pushed c.args.nodes.now.items c.push.new.self.items c.in_ok-node.node c.args.placed.now c.in_ok-node.ensures.items
    c.in_ok-push.ensures.items

pub returns-clause-added : goal.returns-clause-added
returns-clause-added c = (c.in_ok-node.node, c.in_ok-push.ensures.items, c.in_ok-node.ensures)
