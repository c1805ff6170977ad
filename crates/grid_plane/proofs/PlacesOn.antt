-- A place on a segment, and all points at it.
use Rattle.std.proofs.Common.{◌≡◌, ℤ, pos, ◌*ℤ◌, ◌↔◌, arith, sym, ◌∙◌, true, false}
use Rattle.std.proofs.lemmas.Int.{ints}
use Rattle.std.proofs.lemmas.Bool.{false≢true}
use Rattle.plane_terms.specs.Point.{Place, point_at}
use Rattle.plane_terms.specs.Segment.{Segment, IsSegment, OnSegment, comes_before}
use Rattle.plane_terms.specs.Share.{turn}
use Rattle.cell_laws.proofs.AtPlaces.{on_all_at}
use Rattle.cell_laws.proofs.OnLine.{Upto, from_lo, to_hi, on_from_order, at_itself}
use Rattle.cell_laws.proofs.Shares.{before_not, read_not_before}
use Rattle.grid_plane.specs.Rectangles.{HoldsAt}

unit : (v : ℤ) → v *ℤ pos 1 ≡ v
unit v = omega (arith, ints)

pub off_before : (s : Segment) (q : Place) → IsSegment s → comes_before q s.lo ≡ true → ¬ (OnSegment s (point_at q))
off_before s q g e = λ o.
    let u : Upto s.lo.x s.lo.y q.x q.y = rw (unit s.lo.x, unit s.lo.y) at (from_lo s (point_at q) g o) in
    false≢true (sym (before_not q s.lo u) ∙ e)

pub off_after : (s : Segment) (q : Place) → IsSegment s → comes_before s.hi q ≡ true → ¬ (OnSegment s (point_at q))
off_after s q g e = λ o.
    let u : Upto q.x q.y s.hi.x s.hi.y = rw (unit s.hi.x, unit s.hi.y) at (to_hi s (point_at q) g o) in
    false≢true (sym (before_not s.hi q u) ∙ e)

-- all points at a place are on the segment where one is
pub on_at : (s : Segment) (q : Place) → OnSegment s (point_at q) ↔ HoldsAt q (OnSegment s)
on_at s q = (λ o p a. on_all_at s q o p a, λ h. h (point_at q) (at_itself q))

pub on_within : (s : Segment) (q : Place) → IsSegment s → comes_before q s.lo ≡ false → comes_before s.hi q ≡ false → turn s q ≡ pos 0
    → OnSegment s (point_at q)
on_within s q g e f z = on_from_order s q g z (read_not_before q s.lo e) (read_not_before s.hi q f)
