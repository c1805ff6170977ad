use Rattle.std.proofs.Common.{not, rules, ap, ◌∙◌}
use Rattle.std.specs.List.{filter}
use Rattle.std.proofs.lemmas.Fn.{filter_same}
use Rattle.plane_terms.specs.Rectangle.{is_within}
use Rattle.dirty_area.specs.Blocks.{Block}
use Rattle.dirty_area.proofs.block.Block.drop_held.Goals as goal

pub returns-clause-held : goal.returns-clause-held
returns-clause-held c = filter_same _ (λ s. not (is_within s c.args.r.now)) _ (λ x b q h. search rules) _ _ c.retain.ensures.filtered
    ∙ ap (λ (b : Block). filter (λ s. not (is_within s c.args.r.now)) b.items) c.self.view_is
