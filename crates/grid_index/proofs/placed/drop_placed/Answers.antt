use Rattle.std.proofs.Common.{not, rules}
use Rattle.std.proofs.lemmas.Fn.{filter_same}
use Rattle.grid_index.specs.Near.{is_placed}
use Rattle.grid_index.proofs.placed.drop_placed.Goals as goal

pub returns : goal.returns
returns c = filter_same _ (λ q. not (is_placed c.args.placed.now q)) _ (λ x b q h. search rules) _ _ c.retain.ensures.filtered
