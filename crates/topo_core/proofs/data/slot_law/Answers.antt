use Rattle.std.proofs.Common.{arith}
use Rattle.topo_core.proofs.data.slot_law.Goals as goal

pub returns-in-Some : goal.returns-in-Some
returns-in-Some c =
    let small = c.subtype.ensures in
    rw c.in-Some.ensures (record { subtype = omega (arith, small); shape = rw c.shape.ensures at c.kind.ensures.valid }, tt)

pub returns-in-None : goal.returns-in-None
returns-in-None c = rw c.in-None.ensures tt
