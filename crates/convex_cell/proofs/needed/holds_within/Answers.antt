use Rattle.std.proofs.Common.{◌≡◌, ◌∙◌, Bool, true, pos, to_z, of_z, w64, sym, arith}
use lib.Signed.{lt_z, le_z}
use Rattle.std.proofs.lemmas.Int.{ints}
use Rattle.plane_terms.specs.Point.{Point}
use Rattle.plane_terms.specs.HalfPlane.{HalfPlane, Holds}
use Rattle.number_laws.proofs.Ring.{int_tests}
use Rattle.convex_cell.specs.declared.needed.Reach.{Reach}
use Rattle.convex_cell.specs.Needed.{IsInFrame}
use Rattle.convex_cell.proofs.Ranges.{on_true_if}
use Rattle.convex_cell.proofs.Within.{over_holds, at_least_holds}
use Rattle.convex_cell.proofs.needed.holds_within.Goals as goal

abbrev HoldsAll : HalfPlane → Reach → Reach → Type 0
HoldsAll h x y = (p : Point) → IsInFrame x y p → Holds h p

pub returns-in-Over : goal.returns-in-Over
returns-in-Over c =
    let h = c.args.half.now in
    let l = c.lowest_within-lowest in
    let test : Bool = lt_z (pos 0) (to_z w64 (of_z w64 l.result)) in
    on_true_if test (HoldsAll h c.args.x c.args.y) (λ (over : test ≡ true) p i. over_holds h p l.result (sym c.op.ensures ∙ c.in-Over.is)
    (l.ensures p i) (omega (arith, ints, int_tests)))

pub returns-in-AtLeast : goal.returns-in-AtLeast
returns-in-AtLeast c =
    let h = c.args.half.now in
    let l = c.lowest_within-lowest in
    let test : Bool = le_z (pos 0) (to_z w64 (of_z w64 l.result)) in
    on_true_if test (HoldsAll h c.args.x c.args.y) (λ (least : test ≡ true) p i. at_least_holds h p l.result
    (sym c.op.ensures ∙ c.in-AtLeast.is) (l.ensures p i) (omega (arith, ints, int_tests)))
