-- Two segments that share a point: what they have in common, and what is left of it off places of the grid.
use Rattle.std.proofs.Common.{◌≡◌, ◌⊎◌, inl, inr, Bool, true, false, List, [], ◌∷◌, refl, sym, ap, cond, map}
use Rattle.std.specs.Prelude.{◌||◌}
use Rattle.std.specs.List.{filter, list_any}
use Rattle.std.proofs.lemmas.Bool.{false≢true}
use Rattle.plane_terms.specs.Lists.{SomeOf}
use Rattle.plane_terms.specs.Point.{Place, Point, IsAt, point_at}
use Rattle.plane_terms.specs.Segment.{Segment, IsSegment, OnSegment, SharePoint}
use Rattle.plane_terms.specs.Share.{AreSame, MeetOnce}
use Rattle.plane_terms.specs.Cell.{Cell, HasPoint, InCells, HavePoints, meet_of, on_segment, out_of_place}
use Rattle.plane_terms.specs.Carve.{kept}
use Rattle.plane_terms.proofs.Truths.{both_parts}
use Rattle.topology_terms.specs.Cells.{uncovered, in_common, on_both, off_places}
use Rattle.cell_laws.proofs.Decision.{has_point-true}
use Rattle.cell_laws.proofs.Meets.{meet_points}
use Rattle.cell_laws.proofs.OnLine.{at_itself}
use Rattle.cell_laws.proofs.SegmentCells.{on_segment_points}
use Rattle.cell_laws.proofs.Shares.{same_third, end_same}
use Rattle.rule_laws.proofs.Crossed.{off_points, off_have_points}
use Rattle.rule_laws.proofs.Tests.{place_from}

-- the one cell that they have in common
kept_one : (c : Cell) → HasPoint c → kept (c ∷ []) ≡ c ∷ []
kept_one c h = ap (λ (b : Bool). cond b (c ∷ []) []) ((has_point-true c).1 h)

pub common_one : (s t : Segment) → IsSegment s → IsSegment t → SharePoint s t → in_common s t ≡ meet_of (on_segment s) (on_segment t) ∷ []
common_one s t g h k =
    kept_one (meet_of (on_segment s) (on_segment t))
    (k.0, (meet_points (on_segment s) (on_segment t) k.0).1 ((on_segment_points s k.0 g).1 k.1, (on_segment_points t k.0 h).1 k.2))

-- where none of the places is on both, none is carved out
none_picked : {A : Type 0} (test : A → Bool) (xs : List A) → list_any test xs ≡ false → filter test xs ≡ []
none_picked test [] e = refl
none_picked test (x ∷ xs) e = by_test (test x) (λ n. none_picked test xs n) e
  where
    by_test : (b : Bool) → (list_any test xs ≡ false → filter test xs ≡ []) → (b || list_any test xs) ≡ false
        → cond b (x ∷ filter test xs) (filter test xs) ≡ []
    by_test true more e = absurd (false≢true (sym e))
    by_test false more e = more e

pub all_left : (es : List Place) (s t : Segment) → list_any (on_both s t) es ≡ false → off_places es s t ≡ in_common s t
all_left es s t e = ap (λ (qs : List Place). uncovered (in_common s t) (map {A = Place} out_of_place qs)) (none_picked (on_both s t) es e)

-- a point at a place, where another is the same
at_same : (q : Place) (a p : Point) → AreSame a p → AreSame a (point_at q) → IsAt q p
at_same q a p h k =
    let spot : Segment = record { lo = q; hi = q; turned = false } in
    elim (end_same spot (point_at q) p (same_third a (point_at q) p k h) (inl (at_itself q))) [ inl i ↦ i | inr i ↦ i ]

-- the one point of both is at a place that is on both
picked_at : (es : List Place) (s t : Segment) (m : MeetOnce s t) (p : Point) → OnSegment s p → OnSegment t p
    → list_any (on_both s t) es ≡ true → SomeOf (λ q. IsAt q p) es
picked_at [] s t m p o k e = absurd (false≢true e)
picked_at (q ∷ es) s t m p o k e = by_test (on_both s t q) refl (λ n. picked_at es s t m p o k n) e
  where
    by_test : (b : Bool) → on_both s t q ≡ b → (list_any (on_both s t) es ≡ true → SomeOf (λ q. IsAt q p) es)
        → (b || list_any (on_both s t) es) ≡ true → IsAt q p ⊎ SomeOf (λ q. IsAt q p) es
    by_test true f more e =
        let h = both_parts _ _ f in
        let here = m.only (point_at q) (place_from s q (point_at q) (at_itself q) h.0) (place_from t q (point_at q) (at_itself q) h.1) in
        inl (at_same q m.at p (m.only p o k) here)
    by_test false f more e = inr (more e)

pub no_cells : (cs : List Cell) → HavePoints cs → ((p : Point) → InCells cs p → ⊥) → cs ≡ []
no_cells [] h n = refl
no_cells (c ∷ cs) h n = absurd (n h.0.0 (inl h.0.1))

pub none_left_off : (es : List Place) (s t : Segment) → IsSegment s → IsSegment t → MeetOnce s t → list_any (on_both s t) es ≡ true
    → off_places es s t ≡ []
none_left_off es s t g h m e = no_cells (off_places es s t) (off_have_points es s t) (λ p i.
    let k = (off_points es s t p g h).0 i in
    k.1 (picked_at es s t m p k.0.0 k.0.1 e))
