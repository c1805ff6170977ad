use Rattle.std.proofs.Common.{◌≡◌, pos, neg_ℤ, to_z, of_z, w64, arith}
use Rattle.std.proofs.lemmas.Int.{ints}
use Rattle.convex_cell.proofs.Uprights.{after_line, before_line}
use Rattle.convex_cell.proofs.span.span_between.Goals as goal

pub returns-clause-sound : goal.returns-clause-sound
returns-clause-sound c = λ z w p after before.
    let low : to_z w64 (of_z w64 c.negated.result) ≡ neg_ℤ c.args.left = omega (arith, ints) in
    let high : to_z w64 (of_z w64 c.from-2.result) ≡ c.args.right = omega (arith, ints) in
    c.cut.ensures.sound z w p (c.cut-after.ensures.sound z w p (c.open.ensures.sound z w) (after_line c.args.left _ z (pos w) low after))
    (before_line c.args.right _ z (pos w) high before)
