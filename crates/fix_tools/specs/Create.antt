-- What the call answers that adds a point.
--
-- IsCreated p r h at        the plan is that of the rule r and the feature h, and there is a handle for it
-- IsCreateFault p r h at    why there is no such plan
use Rattle.std.specs.Prelude.{true, false, ◌≡◌, ℕ, List, Some, None}
use Rattle.plane_terms.specs.Point.{Place}
use Rattle.topology_terms.specs.Feature.{Feature, feature_at}
use Rattle.topology_terms.specs.Broken.{Row}
use Rattle.topology_terms.specs.Project.{Project, rule_at}
use Rattle.fix_tools.specs.Snap.{IsOfRule}
use Rattle.fix_terms.specs.Create.{created, may_create, HasHandle}
use Rattle.fix_tools.specs.declared.fault.FixFault.{FixFault}
use Rattle.fix_tools.specs.declared.fault.FixFault.TheVariants.{NoRule, NoFeature, Nothing, Bad, Spent, NoMemory}
use Rattle.fix_terms.specs.Plans.{Edit}

pub record IsCreated (p : Project) (r h : ℕ) (at : Place) (es : List Edit) : Type 0 where
  pub row : Row
  pub f : Feature
  pub subject : IsOfRule p r h row f
  pub may : may_create row p.features f at ≡ true
  pub enough : HasHandle p.next
  pub plan : es ≡ created row at

abbrev pub IsCreateFault : Project → ℕ → ℕ → Place → FixFault → Type 0
IsCreateFault p r h at NoRule = rule_at p.rules r ≡ None
IsCreateFault p r h at NoFeature = (row : Row) × (rule_at p.rules r ≡ Some row) × (feature_at p.features h ≡ None)
IsCreateFault p r h at Nothing = (row : Row) × (f : Feature) × IsOfRule p r h row f × (may_create row p.features f at ≡ false)
IsCreateFault p r h at (Bad fault) = ⊥
IsCreateFault p r h at Spent = (row : Row) × (f : Feature) × IsOfRule p r h row f × (may_create row p.features f at ≡ true) × ¬ (HasHandle p.next)
IsCreateFault p r h at NoMemory = Unit {0}
