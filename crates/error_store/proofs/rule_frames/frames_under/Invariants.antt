use Rattle.std.proofs.Common.{◌≡◌, ◌++◌}
use Rattle.std.specs.Map.{values_of}
use Rattle.error_store.specs.Frames.{frames_if}
use Rattle.error_store.specs.Pairs.{entries_in, all_entries}
use Rattle.error_store.proofs.Noted.{is_under}
use Rattle.error_store.proofs.Pairs.{AreRunsIn}
use Rattle.error_store.proofs.rule_frames.frames_under.Given as goal

abbrev pub invariant-loop-pair : goal.invariant-loop-pair
invariant-loop-pair l = record {
  runs : AreRunsIn l.pair-iterator;
  noted : l.frames.items ++ frames_if (is_under l.rule) (entries_in (values_of l.pair-iterator)) ≡ frames_if (is_under l.rule) (all_entries l.runs);
}
