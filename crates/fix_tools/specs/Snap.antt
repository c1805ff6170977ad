-- What the call answers that puts an end of a line elsewhere.
--
-- IsOfRule p r h row f     the rule r in force is this one, and the live feature h is that
-- IsSnapped p r h i to     the plan is that of the feature h, whose shape is not refused
-- IsSnapFault p r h i to   why there is no such plan
-- IsSnapStop es            why no plan of these edits is made
use Rattle.std.specs.Prelude.{true, false, ◌≡◌, ℕ, List, Some, None}
use Rattle.plane_terms.specs.Point.{Place}
use Rattle.plane_terms.specs.ShapeFaults.{IsFlawless}
use Rattle.topology_terms.specs.Feature.{Feature, feature_at}
use Rattle.topology_terms.specs.Broken.{Row}
use Rattle.topology_terms.specs.Project.{Project, rule_at}
use Rattle.fix_terms.specs.Plans.{IsBadPlan}
use Rattle.fix_terms.specs.Snap.{snapped, snapped_shape, may_snap}
use Rattle.fix_tools.specs.declared.fault.FixFault.{FixFault}
use Rattle.fix_tools.specs.declared.fault.FixFault.TheVariants.{NoRule, NoFeature, Nothing, Bad, Spent, NoMemory}
use Rattle.fix_terms.specs.Plans.{Edit}

pub record IsOfRule (p : Project) (r h : ℕ) (row : Row) (f : Feature) : Type 0 where
  pub rule : rule_at p.rules r ≡ Some row
  pub live : feature_at p.features h ≡ Some f

pub record IsSnapped (p : Project) (r h i : ℕ) (to : Place) (es : List Edit) : Type 0 where
  pub row : Row
  pub f : Feature
  pub subject : IsOfRule p r h row f
  pub may : may_snap row p.features f i to ≡ true
  pub plan : es ≡ snapped i to f
  pub flawless : IsFlawless (snapped_shape i to f.shape)

abbrev pub IsSnapFault : Project → ℕ → ℕ → ℕ → Place → FixFault → Type 0
IsSnapFault p r h i to NoRule = rule_at p.rules r ≡ None
IsSnapFault p r h i to NoFeature = (row : Row) × (rule_at p.rules r ≡ Some row) × (feature_at p.features h ≡ None)
IsSnapFault p r h i to Nothing = (row : Row) × (f : Feature) × IsOfRule p r h row f × (may_snap row p.features f i to ≡ false)
IsSnapFault p r h i to (Bad fault) = (row : Row) × (f : Feature) × IsOfRule p r h row f × (may_snap row p.features f i to ≡ true)
    × IsBadPlan (snapped i to f) fault
IsSnapFault p r h i to Spent = ⊥
IsSnapFault p r h i to NoMemory = Unit {0}

abbrev pub IsSnapStop : List Edit → FixFault → Type 0
IsSnapStop es NoRule = ⊥
IsSnapStop es NoFeature = ⊥
IsSnapStop es Nothing = ⊥
IsSnapStop es (Bad fault) = IsBadPlan es fault
IsSnapStop es Spent = ⊥
IsSnapStop es NoMemory = Unit {0}
