use Rattle.std.proofs.Common.{◌≡◌, ◌++◌, List, Contains}
use Rattle.std.specs.Map.{values_of}
use Rattle.grid_index.specs.declared.placed.Placed.{Placed}
use Rattle.error_store.specs.Frames.{frames_if, IsShared, LosesThose}
use Rattle.error_store.specs.Pairs.{entries_in, all_entries}
use Rattle.error_store.proofs.Noted.{is_under}
use Rattle.error_store.proofs.Pairs.{AreRunsIn}
use Rattle.error_store.proofs.rule_frames.drop_each.Given as goal

abbrev pub invariant-loop-pair : goal.invariant-loop-pair
invariant-loop-pair l = record {
  runs : AreRunsIn l.pair-iterator;
  gone : (done : List Placed) × (done ++ frames_if (is_under l.rule) (entries_in (values_of l.pair-iterator)) ≡ frames_if (is_under l.rule) (all_entries l.runs))
      × LosesThose (Contains done) (IsShared l.rule (all_entries l.runs)) l.fn.index l.index;
}
