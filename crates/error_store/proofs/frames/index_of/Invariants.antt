use Rattle.std.proofs.Common.{◌≡◌, ◌++◌, List}
use Rattle.topology_terms.specs.Entry.{Entry}
use Rattle.error_store.specs.Frames.{AreFramed, AreFrames}
use Rattle.error_store.specs.Pairs.{entries_in, all_entries}
use Rattle.error_store.proofs.frames.index_of.Given as goal

abbrev pub invariant-loop-run : goal.invariant-loop-run
invariant-loop-run l = (done : List Entry) × (all_entries l.runs ≡ done ++ entries_in l.run-iterator) × AreFramed l.index done × AreFrames l.index done
