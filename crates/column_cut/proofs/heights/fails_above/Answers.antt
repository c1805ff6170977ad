use Rattle.std.proofs.Common.{◌≡◌, true, pos, ◌<ℤ◌, int_le, to_z, of_z, w64, arith}
use Rattle.std.proofs.lemmas.Int.{ints}
use Rattle.std.proofs.lemmas.Bool.{OnTrue_from}
use Rattle.plane_terms.specs.Point.{Point}
use Rattle.plane_terms.specs.HalfPlane.{Holds, x_is, y_over}
use Rattle.column_cut.proofs.Fails.{read_under, above_fails}
use Rattle.column_cut.proofs.heights.fails_above.Goals as goal

pub returns : goal.returns
returns c =
    let h = c.args.half.now in
    let x = c.args.x.now in
    let y = c.args.y.now in
    let slope : c.args.half.now.b <ℤ pos 0 = omega (arith, ints) in
    let f : int_le (to_z w64 (of_z w64 c.value_at.result)) (pos 0) ≡ true → (p : Point) → Holds (x_is x) p → Holds (y_over y) p
    → ¬ (Holds h p) = λ e p on l. above_fails h x y p
    (read_under c.value_at.result _ c.value_at.ensures.fits c.value_at.ensures.value e) on slope l in
    OnTrue_from _ _ f
