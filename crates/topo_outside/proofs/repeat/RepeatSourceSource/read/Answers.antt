use Rattle.std.proofs.Common.{◌≡◌, ◌+◌, ◌<◌, [], ap, length, drop, arith}
use Rattle.std.proofs.lemmas.List.{length-drop}
use Rattle.topo_outside.proofs.repeat.RepeatSourceSource.read.Goals as goal

pub returns-clause-some : goal.returns-clause-some
returns-clause-some c = λ room.
    let piece = c.args.self.now.piece.items in
    let at = c.args.self.now.at in
    let there : at < length piece = c.args.self.now.at_in_range in
    let n = c.copy_piece-count.result in
    let taken : n ≡ 0 → ⊥ = λ none.
    let over : drop (at + n) piece ≡ [] = rw (← c.deref.ensures.value) (c.copy_piece-count.ensures.none none room) in
    omega (arith, none, ap length over, length-drop (at + n) piece) in
    omega (arith, taken)
