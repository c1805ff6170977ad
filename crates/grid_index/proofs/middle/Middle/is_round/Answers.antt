use Rattle.std.proofs.Common.{◌∙◌, ap, ◌/◌, ◌^◌, nat_le}
use Rattle.grid_index.proofs.Squares.{round_is}
use Rattle.grid_index.proofs.middle.Middle.is_round.Goals as goal

pub returns : goal.returns
returns c = ap (λ n. nat_le (n / 2 ^ c.args.digit) 1) c.apart.ensures ∙ round_is c.args.digit c.args.self.now c.args.other.now
