use Rattle.std.proofs.Common.{◌≡◌, length, arith, rules, vec_len}
use Rattle.topo_run.proofs.Tails.{held_short}
use Rattle.topo_run.proofs.pieces.Replayer.held.Goals as goal

pub returns-clause-most : goal.returns-clause-most
returns-clause-most c =
    let count : length c.self.inside.rest.items ≡ vec_len c.self.inside.rest = search rules in
    omega (arith, count, c.len.ensures, held_short c.self.inside.rest.items c.self.invariant)
