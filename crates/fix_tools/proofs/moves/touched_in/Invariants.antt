use Rattle.std.proofs.Common.{◌≡◌, map, take}
use Rattle.topology_terms.specs.Feature.{Feature}
use Rattle.feature_store.specs.Slots.{filled}
use Rattle.fix_terms.specs.Move.{touching}
use Rattle.fix_tools.proofs.moves.touched_in.Given as goal

abbrev pub invariant-loop-slot : goal.invariant-loop-slot
invariant-loop-slot l = l.handles ≡ map {A = Feature} (λ f. f.handle) (touching l.place (filled (take l.slot-index l.slots)))
