use Rattle.std.proofs.Common.{drop}
use Rattle.plane_terms.specs.Lists.{Every}
use Rattle.plane_terms.specs.Segment.{IsSegment}
use Rattle.shape.proofs.segments.segments_law.Given as goal

abbrev pub invariant-loop-seg : goal.invariant-loop-seg
invariant-loop-seg l = Every IsSegment (drop l.seg-index l.segs) → Every IsSegment l.segs
