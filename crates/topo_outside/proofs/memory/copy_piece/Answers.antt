use Rattle.std.proofs.Common.{arith, ◌≡◌, take, drop, length}
use Rattle.std.proofs.lemmas.Grind.{common_steps}
use Rattle.topo_outside.proofs.Pieces.{copies_piece}
use Rattle.topo_outside.proofs.memory.copy_piece.Goals as goal

pub returns-clause-copied : goal.returns-clause-copied
returns-clause-copied c =
    let given : c.copy_from_slice.new.self ≡ take c.min-count.result (drop c.args.at c.args.from.now) = grind (arith, common_steps) in
    let len : length c.copy_from_slice.new.self ≡ c.min-count.result = grind (arith, common_steps) in
    copies_piece c.args.at c.min-count.result c.args.from.now c.args.to.now c.copy_from_slice.new.self given len
