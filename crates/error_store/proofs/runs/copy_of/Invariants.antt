use Rattle.std.proofs.Common.{◌≡◌, ◌++◌}
use Rattle.std.specs.BTreeMap.{keys}
use Rattle.std.specs.Map.{keys_of, values_of}
use Rattle.error_store.specs.Pairs.{entries_in, all_entries, AreRuns}
use Rattle.error_store.proofs.Pairs.{AreRunsIn}
use Rattle.error_store.proofs.runs.copy_of.Given as goal

abbrev pub invariant-loop-pair : goal.invariant-loop-pair
invariant-loop-pair l = record {
  keys : keys l.copy ++ keys_of l.pair-iterator ≡ keys l.runs;
  list : all_entries l.copy ++ entries_in (values_of l.pair-iterator) ≡ all_entries l.runs;
  runs : AreRuns l.copy;
  left : AreRunsIn l.pair-iterator;
}
