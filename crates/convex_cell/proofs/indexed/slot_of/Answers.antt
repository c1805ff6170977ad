use Rattle.std.proofs.Common.{arith}
use Rattle.std.proofs.lemmas.Int.{ints}
use Rattle.convex_cell.proofs.Chains.{slot_made}
use Rattle.convex_cell.proofs.indexed.slot_of.Goals as goal

pub returns-clause-value : goal.returns-clause-value
returns-clause-value c =
    slot_made c.args.half.now c.unsigned_abs.result c.unsigned_abs-2.result c.unsigned_abs-3.result
    (omega (arith, ints, c.unsigned_abs.ensures.value, c.a.ensures.value))
    (omega (arith, ints, c.unsigned_abs-2.ensures.value, c.b.ensures.value))
    (omega (arith, ints, c.unsigned_abs-3.ensures.value, c.c.ensures.value))
