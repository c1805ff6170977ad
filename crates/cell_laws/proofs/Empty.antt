-- The range that the halves leave of x is empty exactly where the cell is.
use Rattle.std.proofs.Common.{ℕ, List, ℤ, pos, neg_ℤ, ◌<ℤ◌, IfSome, lit<}
use Rattle.std.specs.List.{All, AllByRecursion}
use Rattle.std.proofs.lemmas.List.Elements.{All-weaker, All-from_recursion, recursion_from_All}
use Rattle.plane_terms.specs.Point.{Point}
use Rattle.plane_terms.specs.HalfPlane.{HalfPlane, Holds}
use Rattle.plane_terms.specs.Decide.{low_of, high_of}
use Rattle.plane_terms.specs.Cell.{InCell}
use Rattle.cell_laws.specs.Bounds.{level, Compatible, FlatHolds, PairsHold}
use Rattle.cell_laws.proofs.Lines.{compatible_at}
use Rattle.cell_laws.proofs.LineLists.{AllowedBy}
use Rattle.cell_laws.proofs.Elimination.{line_of, edges_at, low_rising, high_rising, some_both, PairHolds}

-- what every half says of x, at a point of the cell
pub all_pairs : (hs : List HalfPlane) (q : Point) → InCell hs q → All (λ h. FlatHolds h q.x q.w × PairsHold hs h q.x q.w) hs
all_pairs hs q m =
    let k = All-from_recursion (λ h. Holds h q) hs m in
    All-weaker (λ h. Holds h q) (λ h. FlatHolds h q.x q.w × PairsHold hs h q.x q.w) (λ h n.
    let e = edges_at h q n in (
      e.flat,
      some_both (λ l. pos 0 <ℤ l.b) (λ l. AllowedBy q.y 1 (line_of q.x q.w l))
          (λ l. All (λ g. IfSome (high_of g) (λ u. Compatible l u q.x q.w)) hs) (low_of h) (low_rising h) e.low (λ l r a.
          All-weaker (λ g. Holds g q) (λ g. IfSome (high_of g) (λ u. Compatible l u q.x q.w)) (λ g n.
          some_both (λ u. pos 0 <ℤ u.b) (λ u. AllowedBy (neg_ℤ q.y) 1 (line_of q.x q.w u)) (λ u. Compatible l u q.x q.w) (high_of g)
          (high_rising g) (edges_at g q n).high (λ u s b.
          compatible_at l.b (level l q.x q.w) u.b (level u q.x q.w) l.strict u.strict q.y 1 (lit< tt) r s a b)) hs k),
    )) hs k

pub by_recursion : (hs : List HalfPlane) (h : HalfPlane) (x : ℤ) (w : ℕ) → PairsHold hs h x w → PairHolds hs x w h
by_recursion hs h x w k =
    some_both (λ l. pos 0 <ℤ l.b) (λ l. All (λ g. IfSome (high_of g) (λ u. Compatible l u x w)) hs)
    (λ l. AllByRecursion (λ g. IfSome (high_of g) (λ u. Compatible l u x w)) hs) (low_of h) (low_rising h) k
    (λ l r a. recursion_from_All (λ g. IfSome (high_of g) (λ u. Compatible l u x w)) hs a)
