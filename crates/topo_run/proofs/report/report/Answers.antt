use Rattle.std.proofs.Common.{inr}
use Rattle.outside_terms.specs.Shelves.{Visit}
use Rattle.topo_run.proofs.report.report.Goals as goal

pub returns-in-Err-clause-ends : goal.returns-in-Err-clause-ends
returns-in-Err-clause-ends g c =
    let h : Visit = record {
      old = g.H.Shelf.held c.args.shelf.now;
      new = g.H.Shelf.held c.open.new.shelf;
      before = g.H.Shelf.faults c.args.shelf.now;
      now = g.H.Shelf.faults c.open.new.shelf;
    } in
    inr (c.say_unopened.ensures.ends c.args.name.now h c.in-Err.ensures.unopened)
