use Rattle.std.proofs.Common.{subst, sym, [], arith}
use Rattle.std.proofs.lemmas.List.{take_all}
use Rattle.grid_index.specs.Near.{HoldsSame}
use Rattle.grid_index.specs.Nodes.{all_items}
use Rattle.grid_index.specs.Squares.{AreGathered}
use Rattle.grid_index.proofs.Members.{same_more}
use Rattle.grid_index.proofs.Nodes.{held_itself}
use Rattle.grid_index.proofs.Parts.{distinct_none}
use Rattle.grid_index.proofs.siblings.divided.Goals as goal

pub loop-placed-init : goal.loop-placed-init
loop-placed-init c = record {
  same = subst (λ ns. HoldsSame [] (all_items ns)) (sym c.new-nodes.ensures.items) (held_itself []);
  leaves = subst (AreGathered c.args.digit 0) (sym c.new-nodes.ensures.items) (tt, distinct_none c.args.digit);
}

pub push_in-requires : goal.push_in-requires
push_in-requires c = record { digit = c.requires; leaves = (c.loop-placed.placed-index, c.loop-placed.invariant.leaves) }

pub loop-placed-preserved : goal.loop-placed-preserved
loop-placed-preserved c = record {
  same = same_more c.args.list.now c.loop-placed.placed-index c.placed-item.result (all_items c.loop-placed.nodes.items)
      (all_items c.push_in.new.nodes.items) c.loop-placed-test.true c.placed-item.is c.loop-placed.invariant.same c.in_ok-push_in.ensures.ok;
  leaves = c.in_ok-push_in.ensures.leaves c.loop-placed.placed-index c.loop-placed.invariant.leaves;
}

pub returns-clause-same : goal.returns-clause-same
returns-clause-same c = subst (λ ps. HoldsSame ps (all_items c.loop-placed.nodes.items)) (take_all c.loop-placed.placed-index c.args.list.now (omega arith))
    c.loop-placed.invariant.same

pub returns-clause-leaves : goal.returns-clause-leaves
returns-clause-leaves c = subst (λ n. AreGathered c.args.digit n c.loop-placed.nodes.items) (omega arith) c.loop-placed.invariant.leaves
