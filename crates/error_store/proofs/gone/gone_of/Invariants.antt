use Rattle.std.proofs.Common.{◌≡◌, List, map}
use Rattle.topology_terms.specs.Entry.{Entry}
use Rattle.error_store.specs.Frames.{framed_of}
use Rattle.error_store.proofs.Collected.{IsGathered}
use Rattle.error_store.proofs.GonePairs.{ArePairsBefore}
use Rattle.error_store.proofs.Walking.{left_from}
use Rattle.error_store.proofs.gone.gone_of.Given as goal

abbrev pub invariant-loop-pair : goal.invariant-loop-pair
invariant-loop-pair l = record {
  pairs : ArePairsBefore l.subjects l.runs l.from l.pairs.items;
  frames : (es : List Entry) × IsGathered l.subjects l.runs l.from es × (l.frames.items ≡ map framed_of es);
}

abbrev pub decreases-loop-pair : goal.decreases-loop-pair
decreases-loop-pair l = left_from l.from l.runs.entries
