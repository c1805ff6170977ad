-- The store's fault, as the cause that it tells.
--
-- store_cause e     the cause; none of out of memory
use Rattle.std.specs.Prelude.{Option, Some, None}
use Rattle.topology_terms.specs.declared.cause.Cause.{Cause}
use Rattle.topology_terms.specs.declared.cause.Cause.TheVariants as cause
use Rattle.feature_store.specs.declared.fault.StoreFault.{StoreFault}
use Rattle.feature_store.specs.declared.fault.StoreFault.TheVariants as fault

abbrev pub store_cause : StoreFault → Option Cause
store_cause fault.ClassTaken = Some cause.ClassTaken
store_cause fault.ClassesFull = Some cause.ClassesFull
store_cause fault.NoClass = Some cause.NoClass
store_cause fault.WrongKind = Some cause.WrongKind
store_cause fault.HandlesSpent = Some cause.HandlesSpent
store_cause fault.NoMemory = None
