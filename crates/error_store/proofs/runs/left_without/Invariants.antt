use Rattle.std.proofs.Common.{◌≡◌, ◌+◌, length}
use Rattle.std.specs.List.{filter}
use Rattle.std.specs.Map.{values_of}
use Rattle.error_store.specs.Pairs.{entries_in, all_entries}
use Rattle.error_store.proofs.Dropping.{is_other}
use Rattle.error_store.proofs.Pairs.{AreRunsIn}
use Rattle.error_store.proofs.runs.left_without.Given as goal

abbrev pub invariant-loop-pair : goal.invariant-loop-pair
invariant-loop-pair l = record {
  runs : AreRunsIn l.pair-iterator;
  left : l.left + length (filter (is_other l.rule) (entries_in (values_of l.pair-iterator)))
      ≡ length (filter (is_other l.rule) (all_entries l.runs)) + length (entries_in (values_of l.pair-iterator));
}
