use Rattle.std.proofs.Common.{rules}
use Rattle.std.proofs.lemmas.Fn.{filter_same}
use Rattle.topo_core.proofs.RulesLess.{is_other}
use Rattle.topo_core.proofs.rules.drop_from.Goals as goal

pub returns : goal.returns
returns c = filter_same _ (is_other c.args.number) _ (λ x b q h. search rules) _ _ c.retain.ensures.filtered
