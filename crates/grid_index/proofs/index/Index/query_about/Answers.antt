use Rattle.grid_index.specs.Near.{handle_of}
use Rattle.grid_index.proofs.Adding.{once_near}
use Rattle.grid_index.proofs.index.Index.query_about.Goals as goal

pub returns-clause-near : goal.returns-clause-near
returns-clause-near g c = once_near handle_of (g.A.Aim.touching c.args.aim.now) c.args.self.now c.add_about.new.found.items
    c.once_each.new.found.items (rw c.in_ok-found.ensures.items at c.in_ok-add_about.ensures.met)
    c.in_ok-once_each.ensures.same
