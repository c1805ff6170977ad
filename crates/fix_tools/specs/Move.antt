-- What the call answers that moves all vertices of a place.
--
-- IsMovePlan from to F     the plan is that of these features, and none of its shapes is refused
-- IsMoveFault from to F    why there is no such plan
-- IsMoveStop from to F     why no plan is made of these features, where the places differ
use Rattle.std.specs.Prelude.{true, false, ◌≡◌, List}
use Rattle.plane_terms.specs.Lists.{Every}
use Rattle.plane_terms.specs.Point.{Place}
use Rattle.plane_terms.specs.ShapeFaults.{IsFlawless}
use Rattle.topology_terms.specs.Feature.{Feature}
use Rattle.fix_terms.specs.Plans.{shapes_of, IsBadPlan}
use Rattle.fix_terms.specs.Move.{moves, may_move}
use Rattle.fix_tools.specs.declared.fault.FixFault.{FixFault}
use Rattle.fix_tools.specs.declared.fault.FixFault.TheVariants.{NoRule, NoFeature, Nothing, Bad, Spent, NoMemory}
use Rattle.fix_terms.specs.Plans.{Edit}

pub record IsMovePlan (from to : Place) (F : List Feature) (es : List Edit) : Type 0 where
  pub may : may_move from to F ≡ true
  pub plan : es ≡ moves from to F
  pub flawless : Every IsFlawless (shapes_of es)

-- why no plan is made of these features
abbrev pub IsMoveStop : Place → Place → List Feature → FixFault → Type 0
IsMoveStop from to F NoRule = ⊥
IsMoveStop from to F NoFeature = ⊥
IsMoveStop from to F Nothing = ⊥
IsMoveStop from to F (Bad fault) = IsBadPlan (moves from to F) fault
IsMoveStop from to F Spent = ⊥
IsMoveStop from to F NoMemory = Unit {0}

abbrev pub IsMoveFault : Place → Place → List Feature → FixFault → Type 0
IsMoveFault from to F NoRule = ⊥
IsMoveFault from to F NoFeature = ⊥
IsMoveFault from to F Nothing = may_move from to F ≡ false
IsMoveFault from to F (Bad fault) = (may_move from to F ≡ true) × IsBadPlan (moves from to F) fault
IsMoveFault from to F Spent = ⊥
IsMoveFault from to F NoMemory = Unit {0}
