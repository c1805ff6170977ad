-- What is seen of a node of the tree, and how far the rectangles under it reach.
--
-- NodeView          the reach of its rectangles, a middle that tells its square, the digit by which its quarters are told apart, what
--                   it holds, how many nodes stand on the longest way down from it
-- all_items ns      what the nodes hold
-- AreFilled ns      each of the nodes holds something
-- AreWithin r ps    r holds each rectangle of ps
-- IsAttained f r ps    a rectangle of ps has the same side f as r
-- IsSnug r ps       each side of r is a side of some rectangle of ps
-- IsReach o ps      o is a rectangle that holds each of ps and is snug for ps, or there is none and ps has nothing
-- touches_side r s  the test whether r and s have a side in common: both the western one, or both the southern one, and so on
-- reach_with o r    the least rectangle that holds o and r; r where there is no o
-- reach_of_both     the least rectangle that holds both; one where there is no other
use Rattle.std.specs.Prelude.{◌≡◌, ◌≢◌, ℕ, ℤ, ◌+◌, Bool, ◌||◌, List, [], All, Contains, Option, None, Some, MatchOption}
use Rattle.std.specs.List.{flat_map}
use Rattle.std.specs.Ordering.{int_eq}
use Rattle.plane_terms.specs.Rectangle.{Rectangle, IsWithin, join_of}
use Rattle.grid_index.specs.declared.placed.Placed.{Placed}
use Rattle.grid_index.specs.declared.middle.Middle.{Middle}
use denote.Param.Weighed.{most}

pub record NodeView : Type 0 where
  pub reach : Rectangle
  pub middle : Middle
  pub digit : ℕ
  pub items : List Placed
  pub height : ℕ

abbrev pub all_items : List NodeView → List Placed
all_items ns = flat_map (λ (n : NodeView). n.items) ns

abbrev pub height_over : List NodeView → ℕ
height_over ns = most (λ (n : NodeView). n.height + 1) ns

abbrev pub AreFilled : List NodeView → Type 0
AreFilled ns = All (λ (n : NodeView). n.items ≢ []) ns

abbrev pub AreWithin : Rectangle → List Placed → Type 0
AreWithin r ps = (q : Placed) → Contains ps q → IsWithin q.rect r

abbrev pub IsAttained : (Rectangle → ℤ) → Rectangle → List Placed → Type 0
IsAttained f r ps = (p : Placed) × Contains ps p × (f p.rect ≡ f r)

pub record IsSnug (r : Rectangle) (ps : List Placed) : Type 0 where
  pub west : IsAttained (λ s. s.x0) r ps
  pub south : IsAttained (λ s. s.y0) r ps
  pub east : IsAttained (λ s. s.x1) r ps
  pub north : IsAttained (λ s. s.y1) r ps

abbrev pub IsReach : Option Rectangle → List Placed → Type 0
IsReach o ps = MatchOption o (ps ≡ []) (λ r. AreWithin r ps × IsSnug r ps)

abbrev pub touches_side : Rectangle → Rectangle → Bool
touches_side r s = (int_eq r.x0 s.x0 || int_eq r.y0 s.y0) || (int_eq r.x1 s.x1 || int_eq r.y1 s.y1)

abbrev pub reach_with : Option Rectangle → Rectangle → Option Rectangle
reach_with None r = Some r
reach_with (Some q) r = Some (join_of q r)

abbrev pub reach_of_both : Option Rectangle → Option Rectangle → Option Rectangle
reach_of_both o None = o
reach_of_both o (Some r) = reach_with o r
