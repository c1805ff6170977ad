use Rattle.outside_terms.specs.Shelves.{Visit}
use Rattle.topo_run.proofs.Shelved.{puts}
use Rattle.topo_run.proofs.save.save.Goals as goal

pub returns-clause-saved : goal.returns-clause-saved
returns-clause-saved g c =
    let h : Visit = record {
      old = g.H.Shelf.held c.args.shelf.now;
      new = g.H.Shelf.held c.put.new.self;
      before = g.H.Shelf.faults c.args.shelf.now;
      now = g.H.Shelf.faults c.put.new.self;
    } in
    puts h c.args.target.now c.in-Ok.text.items c.deref.result.now _ c.root-topology.result.now c.put.result
    c.put.ensures.stored c.put.ensures.others c.deref.ensures.value c.in-Ok.ensures
    c.root-topology.ensures c.record_law.ensures
