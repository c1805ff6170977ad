-- A segment whose box does not meet the envelope of a feature has no segment of the feature beside it.
use Rattle.std.proofs.Common.{◌≡◌, Bool, true, false, List, [], ◌∷◌, refl, ap, arith, map}
use Rattle.std.specs.List.{filter}
use Rattle.std.proofs.lemmas.Int.{ints, clamps}
use Rattle.plane_terms.specs.Lists.{Every}
use Rattle.plane_terms.specs.Rectangle.{Rectangle, IsWithin, rects_meet}
use Rattle.plane_terms.specs.Segment.{Segment, IsSegment, box_of}
use Rattle.plane_terms.specs.Cell.{out_of_segment}
use Rattle.plane_terms.proofs.ListLemmas.{every_map}
use Rattle.topology_terms.specs.Feature.{Feature, sides, env}
use Rattle.topology_terms.specs.Cells.{box_meets, out_of_segments}
use Rattle.shape.specs.Frames.{IsRound}
use Rattle.sound_laws.proofs.Meetings.{meets_wider}
use Rattle.rule_laws.proofs.Envelopes.{BothEnds, LiesIn, segments_ends}

pub box_within : (t : Segment) (r : Rectangle) → BothEnds (LiesIn r) t → IsWithin (box_of t) r
box_within t r h = let a = h.0 in let b = h.1 in record {
  left = a.left;
  right = b.right;
  below = omega (arith, ints, clamps);
  above = omega (arith, ints, clamps);
}

pub wider_meets : (b c r : Rectangle) → IsWithin b r → rects_meet b c ≡ true → rects_meet r c ≡ true
wider_meets b c r w h = grind (arith, ints)

pub off_box : (s t : Segment) (r : Rectangle) → IsWithin (box_of t) r → rects_meet (box_of s) r ≡ false → box_meets s t ≡ false
off_box s t r w n = by_test (box_meets s t) refl
  where
    by_test : (b : Bool) → box_meets s t ≡ b → b ≡ false
    by_test true e = let m = meets_wider (box_of s) (box_of t) r w e in cc
    by_test false e = refl

none_kept : (s : Segment) (r : Rectangle) (ts : List Segment) → Every (λ (t : Segment). IsWithin (box_of t) r) ts
    → rects_meet (box_of s) r ≡ false → filter (box_meets s) ts ≡ []
none_kept s r [] h n = refl
none_kept s r (t ∷ ts) h n = rw (off_box s t r h.0 n) (none_kept s r ts h.1 n)

pub none_in_frame : (s : Segment) (r : Rectangle) (ts : List Segment) → IsRound r ts → rects_meet (box_of s) r ≡ false
    → out_of_segments s ts ≡ []
none_in_frame s r ts h n = ap (map {A = Segment} out_of_segment) (none_kept s r ts
    (every_map (λ (t : Segment). IsSegment t × IsWithin (box_of t) r) (λ (t : Segment). IsWithin (box_of t) r) (λ t k. k.1) ts h) n)

pub none_beside : (s : Segment) (g : Feature) → rects_meet (box_of s) (env g) ≡ false → out_of_segments s (sides g) ≡ []
none_beside s g n = ap (map {A = Segment} out_of_segment) (none_kept s (env g) (sides g)
    (every_map (BothEnds (LiesIn (env g))) (λ (t : Segment). IsWithin (box_of t) (env g)) (λ t k. box_within t (env g) k) (sides g)
    (segments_ends g.shape)) n)
