use Rattle.std.proofs.Common.{arith}
use Rattle.std.proofs.lemmas.Int.{ints, clamps}
use Rattle.cell_laws.proofs.Envelope.{ends_rise}
use Rattle.grid_plane.proofs.seg.Seg.env.Goals as goal

pub invariant_of-result : goal.invariant_of-result
invariant_of-result c =
    let u = rw (← c.lo-lo.ensures.value, ← c.hi-hi.ensures.value) at (ends_rise c.args.self.now c.lo-lo.ensures.valid.proper) in
    omega (arith, ints, clamps)
