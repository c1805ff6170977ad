use Rattle.std.proofs.Common.{◌≡◌, map, IsSome}
use Rattle.std.specs.BTreeMap.{get}
use Rattle.std.specs.Map.Iter.{deref}
use Rattle.plane_terms.specs.Lists.{Every}
use Rattle.error_store.specs.Pairs.{pair_cmp, all_entries}
use Rattle.error_store.specs.Cutting.{AreOrderedRuns}
use Rattle.error_store.specs.Exchange.{KeepsBeside}
use Rattle.error_store.specs.declared.pair.Pair.{Pair}
use Rattle.error_store.proofs.replace.make_room.Given as goal

abbrev pub invariant-loop-pair : goal.invariant-loop-pair
invariant-loop-pair l = AreOrderedRuns l.runs × (all_entries l.runs ≡ all_entries l.fn.runs)
    × Every (λ (p : Pair). IsSome (get pair_cmp l.runs p)) (map deref l.yielded) × KeepsBeside (map deref l.yielded) l.fn.runs l.runs
