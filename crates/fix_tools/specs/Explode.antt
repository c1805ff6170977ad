-- What the call answers that takes a line apart.
--
-- IsLinePart vs        what each part of a line is
-- added_parts f rings  an addition of each of these parts, of the feature's class and subtype
-- IsExploded p h       the plan is that of the live feature h, and there are handles for it
-- IsExplodeFault p h   why there is no such plan
use Rattle.std.specs.Prelude.{◌≡◌, ℕ, ◌≤◌, true, false, List, [], ◌∷◌, length, map, Some, None}
use Rattle.plane_terms.specs.Point.{Place}
use Rattle.plane_terms.specs.Shape.{IsRing}
use Rattle.plane_terms.specs.declared.kind.Kind.TheVariants as kind
use Rattle.topology_terms.specs.Feature.{Feature, feature_at}
use Rattle.topology_terms.specs.Project.{Project}
use Rattle.fix_terms.specs.Explode.{line_of, exploded, may_explode, HasHandles}
use Rattle.fix_tools.specs.declared.fault.FixFault.{FixFault}
use Rattle.fix_tools.specs.declared.fault.FixFault.TheVariants.{NoRule, NoFeature, Nothing, Bad, Spent, NoMemory}
use Rattle.fix_terms.specs.Plans.{Edit}
use Rattle.fix_terms.specs.declared.edit.Edit.TheVariants.{Add}

-- what each part of a line is
pub record IsLinePart (vertices : List Place) : Type 0 where
  pub ring : IsRing kind.Line vertices
  pub few : length vertices ≤ 2000

abbrev pub added_parts : Feature → List (List Place) → List Edit
added_parts f rings = map {A = List Place} (λ ring. Add f.class f.subtype (line_of (ring ∷ []))) rings

pub record IsExploded (p : Project) (h : ℕ) (es : List Edit) : Type 0 where
  pub f : Feature
  pub live : feature_at p.features h ≡ Some f
  pub may : may_explode f ≡ true
  pub enough : HasHandles p.next f
  pub plan : es ≡ exploded f

abbrev pub IsExplodeFault : Project → ℕ → FixFault → Type 0
IsExplodeFault p h NoRule = ⊥
IsExplodeFault p h NoFeature = feature_at p.features h ≡ None
IsExplodeFault p h Nothing = (f : Feature) × (feature_at p.features h ≡ Some f) × (may_explode f ≡ false)
IsExplodeFault p h (Bad fault) = ⊥
IsExplodeFault p h Spent = (f : Feature) × (feature_at p.features h ≡ Some f) × (may_explode f ≡ true) × ¬ (HasHandles p.next f)
IsExplodeFault p h NoMemory = Unit {0}
