use Rattle.std.proofs.Common.{◌≡◌, ◌≤◌, length, take}
use Rattle.error_store.specs.Cutting.{AreOrderedRuns}
use Rattle.error_store.specs.Exchange.{AreDropped}
use Rattle.error_store.specs.Pairs.{all_entries}
use Rattle.error_store.proofs.replace.drop_gone.Given as goal

abbrev pub invariant-loop-pair : goal.invariant-loop-pair
invariant-loop-pair l = record {
  dropped : AreDropped (take l.pair-index l.pairs) l.fresh l.fn.runs l.runs;
  runs : AreOrderedRuns l.runs;
  number : l.left ≡ length (all_entries l.runs);
  fewer : l.left ≤ l.number;
}
