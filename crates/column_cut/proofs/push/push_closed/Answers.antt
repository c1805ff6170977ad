use Rattle.std.proofs.Common.{◌≡◌, to_z, of_z, w32, arith}
use Rattle.std.proofs.lemmas.Int.{ints}
use Rattle.cell_laws.proofs.GridLines.{x_is_holds}
use Rattle.column_cut.proofs.push.push_closed.Goals as goal

pub push_kept_on-requires-clause-on : goal.push_kept_on-requires-clause-on
push_kept_on-requires-clause-on c = λ p m.
    let at : to_z w32 (of_z w32 c.value.result) ≡ c.args.x.now = omega (arith, ints) in
    rw at ((x_is_holds c.args.x.now p).0 (rw c.on-wall.ensures at m.0))
