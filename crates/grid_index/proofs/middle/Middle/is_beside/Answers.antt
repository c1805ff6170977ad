use Rattle.std.proofs.Common.{◌∙◌, ap, ◌/◌, ◌^◌, nat_eq}
use Rattle.grid_index.proofs.Squares.{beside_is}
use Rattle.grid_index.proofs.middle.Middle.is_beside.Goals as goal

pub returns : goal.returns
returns c = ap (λ n. nat_eq (n / 2 ^ c.args.digit) 0) c.apart.ensures ∙ beside_is c.args.digit c.args.self.now c.args.other.now
