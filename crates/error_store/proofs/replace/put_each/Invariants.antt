use Rattle.std.proofs.Common.{◌≡◌, ◌+◌, ◌<◌, ◌^◌, length}
use Rattle.std.specs.BTreeMap.{btree_map_len}
use Rattle.error_store.specs.Pairs.{all_entries}
use Rattle.error_store.proofs.Exchange.{IsPutting}
use Rattle.error_store.proofs.replace.put_each.Given as goal

abbrev pub invariant-loop-pair : goal.invariant-loop-pair
invariant-loop-pair l = IsPutting l.fn.fresh l.fn.runs l.fresh l.runs × (l.count ≡ length (all_entries l.runs))
    × (l.count + length (all_entries l.fresh) < 2 ^ 64)

abbrev pub decreases-loop-pair : goal.decreases-loop-pair
decreases-loop-pair l = btree_map_len l.fresh
