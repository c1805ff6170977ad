use Rattle.std.proofs.Common.{subst, List, [], ◌∷◌}
use Rattle.plane_terms.specs.Lists.{Every, EveryPair}
use Rattle.plane_terms.specs.Segment.{Segment, IsSegment, MeetAtEnds}
use Rattle.plane_terms.specs.Shape.{AreSimple, IsSimple, segments_of}
use Rattle.shape.proofs.Boundary.{has_boundary}
use Rattle.shape.proofs.shape.Shape.simple_law.Goals as goal

with_one : (s : Segment) (ts : List Segment) → Every (AreSimple s) ts → Every (MeetAtEnds s) ts
with_one s [] h = tt
with_one s (t ∷ ts) h = (h.0.ends, with_one s ts h.1)

each_pair : (ss : List Segment) → EveryPair AreSimple ss → EveryPair MeetAtEnds ss
each_pair [] h = tt
each_pair (s ∷ ss) h = (with_one s ss h.0, each_pair ss h.1)

pub returns-clause-simple : goal.returns-clause-simple
returns-clause-simple c = λ e. record {
  proper = subst (Every IsSegment) c.segs.ensures.value c.segs.ensures.proper;
  simple = each_pair (segments_of c.args.self.now) (subst (λ k. IsSimple k (segments_of c.args.self.now)) e c.segs.ensures.valid.simple);
}

pub returns-clause-boundary : goal.returns-clause-boundary
returns-clause-boundary c = λ e. has_boundary c.args.self.now c.segs.ensures.valid e
