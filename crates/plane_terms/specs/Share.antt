-- What two segments have in common.
--
-- AreSame p q            p and q are one point, maybe by two triples; AreApart says that they are not
-- MeetOnce s t           one point is on both, and no other
-- CrossOnce, TouchOnce   so, and the point is an end of neither, or of at least one
-- turn s q               the cross product of hi - lo and q - lo: above 0 left of the segment, 0 on its line
-- share_of s t           what two segments have in common, decided; its meaning is in the clauses of `Seg::shares`
--
-- With SharePoint and Overlap these are the four answers; each pair of segments has exactly one of them.
use Rattle.std.specs.Prelude.{◌≡◌, ℤ, pos, ◌-ℤ◌, ◌*ℤ◌, ◌⊎◌, Bool, cond, ◌&&◌, ◌||◌, int_lt}
use Rattle.std.specs.Ordering.{int_eq}
use Rattle.plane_terms.specs.Point.{Place, Point, right_by, up_by}
use Rattle.plane_terms.specs.Segment.{Segment, OnSegment, IsEndOf, comes_before}
use Rattle.plane_terms.specs.declared.share.Share.{Share}
use Rattle.plane_terms.specs.declared.share.Share.TheVariants.{Nothing, Along, Cross, Touch}

abbrev pub AreSame : Point → Point → Type 0
AreSame p q = (right_by p q ≡ pos 0) × (up_by p q ≡ pos 0)

pub record MeetOnce (s t : Segment) : Type 0 where
  pub at : Point
  pub first : OnSegment s at
  pub second : OnSegment t at
  pub only : (q : Point) → OnSegment s q → OnSegment t q → AreSame at q

pub record CrossOnce (s t : Segment) : Type 0 where
  pub meet : MeetOnce s t
  pub inner : ¬ (IsEndOf s meet.at ⊎ IsEndOf t meet.at)

pub record TouchOnce (s t : Segment) : Type 0 where
  pub meet : MeetOnce s t
  pub end : IsEndOf s meet.at ⊎ IsEndOf t meet.at

abbrev pub turn : Segment → Place → ℤ
turn s q = (s.hi.x -ℤ s.lo.x) *ℤ (q.y -ℤ s.lo.y) -ℤ (s.hi.y -ℤ s.lo.y) *ℤ (q.x -ℤ s.lo.x)

-- ---- how it is decided
-- both above zero or both below
abbrev pub one_side : ℤ → ℤ → Bool
one_side a b = (int_lt (pos 0) a && int_lt (pos 0) b) || (int_lt a (pos 0) && int_lt b (pos 0))

abbrev pub one_zero : ℤ → ℤ → Bool
one_zero a b = int_eq a (pos 0) || int_eq b (pos 0)

-- of two on one line
abbrev pub share_on_line : Segment → Segment → Share
share_on_line s t =
    cond (comes_before s.hi t.lo || comes_before t.hi s.lo) Nothing
    (cond (comes_before t.lo s.hi && comes_before s.lo t.hi) Along Touch)

-- the first lies strictly on one side of the line of the second
abbrev pub is_beside : Segment → Segment → Bool
is_beside s t = one_side (turn t s.lo) (turn t s.hi)

-- both ends of the first are equally far from the line of the second
abbrev pub is_parallel : Segment → Segment → Bool
is_parallel s t = int_eq (turn t s.lo) (turn t s.hi)

-- an end of the first is on the line of the second
abbrev pub has_end_on : Segment → Segment → Bool
has_end_on s t = one_zero (turn t s.lo) (turn t s.hi)

unfoldable pub share_of : Segment → Segment → Share
share_of s t =
    cond (is_beside s t || is_beside t s) Nothing
    (cond (is_parallel s t) (share_on_line s t)
    (cond (has_end_on s t || has_end_on t s) Touch Cross))
