-- Two segments that share no point give no cells: a law of what is taken of each pair.
use Rattle.std.proofs.Common.{◌≡◌, Bool, true, false, List, [], ◌∷◌, refl, sym, ◌∙◌, ap, cond, map}
use Rattle.std.specs.List.{filter}
use Rattle.std.proofs.lemmas.Bool.{false≢true}
use Rattle.plane_terms.specs.Point.{Place}
use Rattle.plane_terms.specs.Segment.{Segment, IsSegment, SharePoint, overlap, box_of}
use Rattle.plane_terms.specs.Cell.{Cell, HasPoint, meet_of, on_segment, out_of_place}
use Rattle.plane_terms.specs.Decide.{has_point}
use Rattle.topology_terms.specs.Cells.{uncovered, in_common, along, on_both, off_places, box_meets}
use Rattle.cell_laws.proofs.Decision.{has_point-true}
use Rattle.cell_laws.proofs.Meets.{meet_points}
use Rattle.cell_laws.proofs.SegmentCells.{on_segment_points}
use Rattle.cell_laws.proofs.Envelope.{box_holds}
use Rattle.sound_laws.proofs.Meetings.{meets_test}
use Rattle.plane_terms.specs.Carve.{kept}

pub uncovered-nil : (dss : List (List Cell)) → uncovered [] dss ≡ []
uncovered-nil [] = refl
uncovered-nil (ds ∷ dss) = uncovered-nil dss

none_kept : (c : Cell) → ¬ (HasPoint c) → kept (c ∷ []) ≡ []
none_kept c n = by_test (has_point c) refl
  where
    by_test : (b : Bool) → has_point c ≡ b → cond b (c ∷ []) [] ≡ []
    by_test true e = absurd (n ((has_point-true c).0 e))
    by_test false e = refl

nothing_shared : (s t : Segment) → IsSegment s → IsSegment t → ¬ (SharePoint s t) → in_common s t ≡ []
nothing_shared s t g h n = none_kept (meet_of (on_segment s) (on_segment t)) none
  where
    none : ¬ (HasPoint (meet_of (on_segment s) (on_segment t)))
    none k =
        let m = (meet_points (on_segment s) (on_segment t) k.0).0 k.1 in
        n (k.0, (on_segment_points s k.0 g).0 m.0, (on_segment_points t k.0 h).0 m.1)

boxes_apart : (s t : Segment) → IsSegment s → IsSegment t → box_meets s t ≡ false → ¬ (SharePoint s t)
boxes_apart s t g h e k =
    let m = meets_test (box_of s) (box_of t) (k.0, box_holds s k.0 g k.1, box_holds t k.0 h k.2) in
    false≢true (sym e ∙ m)

apart : (s t : Segment) → IsSegment s → IsSegment t → box_meets s t ≡ false → in_common s t ≡ []
apart s t g h e = nothing_shared s t g h (boxes_apart s t g h e)

cond_none : (b : Bool) (cs : List Cell) → cs ≡ [] → cond b cs [] ≡ []
cond_none true cs e = e
cond_none false cs e = refl

pub along_apart : (s t : Segment) → IsSegment s → IsSegment t → box_meets s t ≡ false → along s t ≡ []
along_apart s t g h e = cond_none (overlap s t) (in_common s t) (apart s t g h e)

pub off_nothing : (es : List Place) (s t : Segment) → IsSegment s → IsSegment t → ¬ (SharePoint s t) → off_places es s t ≡ []
off_nothing es s t g h n =
    let outs = map {A = Place} out_of_place (filter (on_both s t) es) in
    ap (λ cs. uncovered cs outs) (nothing_shared s t g h n) ∙ uncovered-nil outs

pub off_apart : (es : List Place) (s t : Segment) → IsSegment s → IsSegment t → box_meets s t ≡ false → off_places es s t ≡ []
off_apart es s t g h e = off_nothing es s t g h (boxes_apart s t g h e)
