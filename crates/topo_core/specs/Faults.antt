-- The topology's faults, as the causes that they tell.
--
-- change_fault s       the store's fault, as the topology tells it; a class fault, which a feature never meets, is out of memory
-- edit_cause e         the cause of a fault of an edit; none of out of memory
-- row_cause e          the cause of a fault of a rule; none of out of memory
-- IsFitFault cs row e  the fault is that the classes do not serve the row, and tells why
-- IsThereAt rs row e   a fault that tells of an equal rule names its number
use Rattle.std.specs.Prelude.{◌≡◌, Option, Some, None, List}
use Rattle.topology_terms.specs.Feature.{Class}
use Rattle.topology_terms.specs.Broken.{Row}
use Rattle.topology_terms.specs.Project.{InForce, rule_at}
use Rattle.topology_terms.specs.Causes.{fit_cause}
use Rattle.topology_terms.specs.declared.cause.Cause.{Cause}
use Rattle.topology_terms.specs.declared.cause.Cause.TheVariants as cause
use Rattle.feature_store.specs.declared.fault.StoreFault.{StoreFault}
use Rattle.feature_store.specs.declared.fault.StoreFault.TheVariants as store_fault
use Rattle.topo_core.specs.declared.fault.ChangeFault.{ChangeFault}
use Rattle.topo_core.specs.declared.fault.ChangeFault.TheVariants as fault
use Rattle.topo_core.specs.declared.rule_fault.RuleFault.{RuleFault}
use Rattle.topo_core.specs.declared.rule_fault.RuleFault.TheVariants as rule_fault

abbrev pub change_fault : StoreFault → ChangeFault
change_fault store_fault.NoClass = fault.NoClass
change_fault store_fault.WrongKind = fault.WrongKind
change_fault store_fault.HandlesSpent = fault.HandlesSpent
change_fault other = fault.NoMemory

abbrev pub edit_cause : ChangeFault → Option Cause
edit_cause fault.NoClass = Some cause.NoClass
edit_cause fault.NoFeature = Some cause.NoFeature
edit_cause fault.WrongKind = Some cause.WrongKind
edit_cause fault.HandlesSpent = Some cause.HandlesSpent
edit_cause fault.NoMemory = None

abbrev pub row_cause : RuleFault → Option Cause
row_cause rule_fault.NoClass = Some cause.NoClass
row_cause rule_fault.Unfit = Some cause.Unfit
row_cause (rule_fault.There n) = Some cause.RuleThere
row_cause rule_fault.Full = Some cause.RulesFull
row_cause rule_fault.NoMemory = None

abbrev pub IsFitFault : List Class → Row → RuleFault → Type 0
IsFitFault cs row rule_fault.NoClass = fit_cause cs row ≡ Some cause.NoClass
IsFitFault cs row rule_fault.Unfit = fit_cause cs row ≡ Some cause.Unfit
IsFitFault cs row other = ⊥

abbrev pub IsThereAt : List InForce → Row → RuleFault → Type 0
IsThereAt rs row (rule_fault.There n) = rule_at rs n ≡ Some row
IsThereAt rs row other = Unit {0}
