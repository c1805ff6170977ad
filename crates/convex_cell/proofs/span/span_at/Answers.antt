use Rattle.std.proofs.Common.{◌≡◌, pos, neg_ℤ, to_z, of_z, w64, arith}
use Rattle.std.proofs.lemmas.Int.{ints}
use Rattle.convex_cell.proofs.Uprights.{from_line, to_line}
use Rattle.convex_cell.proofs.span.span_at.Goals as goal

pub returns-clause-sound : goal.returns-clause-sound
returns-clause-sound c = λ z w p on.
    let low : to_z w64 (of_z w64 c.negated.result) ≡ neg_ℤ c.args.v = omega (arith, ints) in
    let high : to_z w64 (of_z w64 c.from-2.result) ≡ c.args.v = omega (arith, ints) in
    c.cut.ensures.sound z w p (c.cut-from.ensures.sound z w p (c.open.ensures.sound z w) (from_line c.args.v _ z (pos w) low on))
    (to_line c.args.v _ z (pos w) high on)
