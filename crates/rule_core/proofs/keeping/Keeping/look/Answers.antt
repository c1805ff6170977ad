use Rattle.std.proofs.Common.{◌∙◌, nat_eq}
use Rattle.rule_core.specs.Kept.{size_of}
use Rattle.rule_core.proofs.Totals.{promoted_weigh}
use Rattle.rule_core.proofs.keeping.Keeping.look.Goals as goal

pub invariant_of-self : goal.invariant_of-self
invariant_of-self c = rw c.promote.ensures.entries record {
  features = c.self.invariant.features;
  counted = promoted_weigh size_of (nat_eq c.handle.result) c.self.inside.cache.entries ∙ c.self.invariant.counted;
  halves = c.self.invariant.halves;
}
