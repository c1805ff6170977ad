-- Faults of a shelf.
--
-- IsShelfFailure fault P     P, where the fault is the shelf's own and not out of memory
-- ShelfCause             the count of faults does not fall, and `Failed` comes only where it rose
use Rattle.std.specs.Prelude.{ℕ, ◌≤◌, IfErr, Result}
use Rattle.outside_terms.specs.Faults.{Rose}
use Rattle.topo_outside.specs.declared.fault.ShelfFault.{ShelfFault}
use Rattle.topo_outside.specs.declared.fault.ShelfFault.TheVariants.{Failed, NoMemory}

abbrev pub IsShelfFailure : ShelfFault → Type 0 → Type 0
IsShelfFailure Failed P = P
IsShelfFailure NoMemory P = Unit {0}

pub record ShelfCause {T : Type 0} (before now : ℕ) (result : Result T ShelfFault) : Type 0 where
  pub later : before ≤ now
  pub failed : IfErr result (λ e. IsShelfFailure e (Rose before now))
