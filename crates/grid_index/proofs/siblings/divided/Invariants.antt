use Rattle.std.proofs.Common.{take}
use Rattle.grid_index.specs.Near.{HoldsSame}
use Rattle.grid_index.specs.Nodes.{all_items}
use Rattle.grid_index.specs.Squares.{AreGathered}
use Rattle.grid_index.proofs.siblings.divided.Given as goal

abbrev pub invariant-loop-placed : goal.invariant-loop-placed
invariant-loop-placed l = record { same : HoldsSame (take l.placed-index l.list) (all_items l.nodes.items); leaves : AreGathered l.digit l.placed-index l.nodes.items }
