use Rattle.std.proofs.Common.{◌≡◌, true, ◌∷◌, [], to_z, of_z, w32, arith}
use Rattle.std.proofs.lemmas.Int.{ints}
use Rattle.plane_terms.specs.HalfPlane.{x_over, x_under}
use Rattle.plane_terms.specs.Decide.{has_point}
use Rattle.cell_laws.proofs.Decision.{has_point-true}
use Rattle.cell_laws.proofs.GridLines.{x_over_holds, x_under_holds}
use Rattle.column_cut.proofs.push.push_between.Goals as goal

pub push_between-requires-clause-after : goal.push_between-requires-clause-after
push_between-requires-clause-after c = λ p m.
    let at : to_z w32 (of_z w32 c.value.result) ≡ c.args.left.now = omega (arith, ints) in
    rw at ((x_over_holds c.args.left.now p).0 (rw c.right_of.ensures at m.0))

pub push_between-requires-clause-before : goal.push_between-requires-clause-before
push_between-requires-clause-before c = λ p m.
    let at : to_z w32 (of_z w32 c.value-then-is_open.result) ≡ c.args.right.now = omega (arith, ints) in
    rw at ((x_under_holds c.args.right.now p).0 (rw c.left_of.ensures at m.1.0))

pub returns-then-is_open : goal.returns-then-is_open
returns-then-is_open c =
    let some : has_point (x_over c.args.left.now ∷ x_under c.args.right.now ∷ c.args.over.now ∷ c.args.under.now ∷ []) ≡ true
    = (has_point-true _).1 c.if-is_open.ensures in
    rw some (rw (c.right_of.ensures, c.left_of.ensures) at c.push_between.ensures.ok)
