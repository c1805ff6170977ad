-- What a cell leaves of one coordinate.
use Rattle.std.proofs.Common.{◌≡◌, ◌↔◌, ℕ, ◌*◌, ◌<◌, ◌++◌, ℤ, pos, ◌*ℤ◌, arith, sym, subst}
use Rattle.std.specs.List.{All}
use Rattle.std.proofs.lemmas.List.Elements.{All-weaker, All-map, All-from_recursion, recursion_from_All}
use Rattle.plane_terms.specs.Point.{Point}
use Rattle.plane_terms.specs.HalfPlane.{HalfPlane, Holds}
use Rattle.plane_terms.specs.Cell.{Cell, InCell, HasPoint}
use Rattle.number_laws.proofs.Ring.{num, ◌⊗◌, same_by}
use Rattle.cell_laws.specs.Bounds.{FlatHolds, PairsHold}
use Rattle.cell_laws.proofs.Elimination.{over, PairHolds, eliminated}
use Rattle.cell_laws.proofs.Empty.{all_pairs, by_recursion}
use Rattle.convex_cell.specs.declared.direction.Direction.{Direction}
use Rattle.convex_cell.specs.declared.range.Range.{Range}
use Rattle.convex_cell.specs.Range.{InRange}
use Rattle.convex_cell.specs.Seen.{seen, point_seen, cell_seen, PairsSeen}
use Rattle.convex_cell.specs.Line.{IsLineAcross, SaysOn}
use Rattle.convex_cell.specs.Shadow.{IsShadow}
use Rattle.convex_cell.proofs.Both.{all_of_both}
use Rattle.convex_cell.proofs.OnLines.{OnLine, says_on, over_line}
use Rattle.convex_cell.proofs.Views.{All-unmap, range_seen, in_seen, unseen}

-- ---- by pairs
pub shadow_by_pairs : (d : Direction) (hs : Cell) (r : Range) → ((t : ℤ) → (w : ℕ) → 0 < w
    → (InRange r t w ↔ All (λ h. FlatHolds (seen d h) t w × PairsSeen d hs (seen d h) t w) hs)) → IsShadow d hs r
shadow_by_pairs d hs r both =
    let c = cell_seen d hs in
    let seen_so = range_seen d hs r both in
    record {
      reaches = λ q m. (seen_so q.x q.w q.positive).1 (all_pairs c q m);
      reached = λ t w p i.
          let all = (seen_so t w p).0 i in
          let flat = All-weaker (λ h. FlatHolds h t w × PairsHold c h t w) (λ h. FlatHolds h t w) (λ h k. k.0) c all in
          let pairs = All-weaker (λ h. FlatHolds h t w × PairsHold c h t w) (PairHolds c t w) (λ h k. by_recursion c h t w k.1) c all in
          let o = eliminated c t w p (recursion_from_All (λ h. FlatHolds h t w) c flat) (recursion_from_All (PairHolds c t w) c pairs) in
          (over t w p o.y o.d o.positive, o.within, first t w o.d);
    }
  where
    first : (t : ℤ) (w d : ℕ) → (t *ℤ pos d) *ℤ pos w ≡ t *ℤ pos (w * d)
    first t w d = same_by (num t ⊗ num (pos d) ⊗ num (pos w)) (num t ⊗ num (pos (w * d))) (omega arith)

-- ---- on a line
pub shadow_on_line : (d : Direction) (a b : Cell) (l : HalfPlane) (r₀ r₁ r₂ : Range) → IsLineAcross l
    → ((q : Point) → InCell (cell_seen d a) q → Holds l q) → ((t : ℤ) → (w : ℕ) → InRange r₀ t w)
    → ((t : ℤ) → (w : ℕ) → 0 < w → (InRange r₁ t w ↔ (InRange r₀ t w × All (λ h. SaysOn l (seen d h) t w) a)))
    → ((t : ℤ) → (w : ℕ) → 0 < w → (InRange r₂ t w ↔ (InRange r₁ t w × All (λ h. SaysOn l (seen d h) t w) b)))
    → IsShadow d (a ++ b) r₂
shadow_on_line d a b l r₀ r₁ r₂ across on all first second = record {
  reaches = λ q m. (both q.x q.w q.positive).1 (said q m);
  reached = λ t w p i. let o = over_line l t w p across in (o.at, held t w o ((both t w p).0 i), o.first);
}
  where
    Said : ℤ → ℕ → HalfPlane → Type 0
    Said t w h = SaysOn l (seen d h) t w

    both : (t : ℤ) → (w : ℕ) → 0 < w → InRange r₂ t w ↔ All (Said t w) (a ++ b)
    both t w p =
        let e = first t w p in
        let f = second t w p in
        let g = all_of_both (Said t w) a b in
        (λ i. let y = f.0 i in g.1 ((e.0 y.0).1, y.1), λ k. let z = g.0 k in f.1 (e.1 (all t w, z.0), z.1))

    said : (q : Point) → InCell (cell_seen d (a ++ b)) q → All (Said q.x q.w) (a ++ b)
    said q m =
        let h = All-unmap (λ g. Holds g q) (seen d) (a ++ b) (All-from_recursion (λ g. Holds g q) (cell_seen d (a ++ b)) m) in
        let held_first = ((all_of_both (λ g. Holds (seen d g) q) a b).0 h).0 in
        let k = on q (recursion_from_All (λ g. Holds g q) (cell_seen d a) (All-map (λ g. Holds g q) (seen d) a held_first)) in
        All-weaker (λ g. Holds (seen d g) q) (Said q.x q.w) (λ g. says_on l (seen d g) q across k) (a ++ b) h

    held : (t : ℤ) (w : ℕ) → (o : OnLine l t w) → All (Said t w) (a ++ b) → InCell (cell_seen d (a ++ b)) o.at
    held t w o s = recursion_from_All (λ g. Holds g o.at) (cell_seen d (a ++ b)) (All-map (λ g. Holds g o.at) (seen d) (a ++ b)
        (All-weaker (Said t w) (λ g. Holds (seen d g) o.at) (λ g. o.holds (seen d g)) (a ++ b) s))

-- ---- a shadow without a number, and with one
pub shadow_empty : (d : Direction) (c : Cell) (r : Range) → IsShadow d c r → ((t : ℤ) → (w : ℕ) → 0 < w → ¬ (InRange r t w))
    → ¬ (HasPoint c)
shadow_empty d c r s none h =
    let q = point_seen d h.0 in none q.x q.w q.positive (s.reaches q ((in_seen d c h.0).1 h.1))

pub shadow_point : (d : Direction) (c : Cell) (r : Range) → IsShadow d c r → (t : ℤ) × (w : ℕ) × (0 < w) × InRange r t w → HasPoint c
shadow_point d c r s n =
    let m = s.reached n.0 n.1 n.2 n.3 in
    let u = unseen d m.0 in
    (u.0, (in_seen d c u.0).0 (subst (λ z. InCell (cell_seen d c) z) (sym u.1) m.1))
