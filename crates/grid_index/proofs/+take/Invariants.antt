use Rattle.std.proofs.Common.{◌≡◌, ℕ, take}
use Rattle.plane_terms.specs.Lists.{Every}
use Rattle.grid_index.specs.Near.{Loses}
use Rattle.grid_index.specs.Nodes.{all_items}
use Rattle.grid_index.specs.Squares.{IsPart, AreLeftAs, middles_of}
use Rattle.grid_index.proofs.+take.Given as goal

abbrev pub invariant-siblings::take_from_each-loop-node : goal.invariant-siblings::take_from_each-loop-node
invariant-siblings::take_from_each-loop-node l = record {
  lost : Loses (all_items (take l.node-index l.initial.node-items)) (all_items (take l.node-index l.node-items)) l.placed;
  rest : goal.unvisited-siblings::take_from_each-loop-node l;
  middles : middles_of l.node-items ≡ middles_of l.initial.node-items;
  left : (k : ℕ) → Every (IsPart k) l.initial.node-items → AreLeftAs l.emptied k (take l.node-index l.node-items);
}
