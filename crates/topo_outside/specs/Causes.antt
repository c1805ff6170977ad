-- Faults of the outside, and what is known of its bytes.
use Rattle.std.specs.Prelude.{◌≡◌, ℕ, ◌<◌, ◌≤◌, List, length, OnErr, IfOk, IfErr, Result}
use Rattle.outside_terms.specs.Faults.{Rose}
use Rattle.topo_outside.specs.declared.fault.SinkFault.{SinkFault}
use Rattle.topo_outside.specs.declared.fault.SinkFault.TheVariants.{Failed, NoMemory}

-- the count of faults does not fall, and a refusal comes only where it rose
pub record ReadCause {T E : Type 0} (before now : ℕ) (result : Result T E) : Type 0 where
  pub later : before ≤ now
  pub failed : OnErr result (Rose before now)

-- the fault of a sink is its own, and not out of memory
abbrev pub IsSinkFailure : SinkFault → Type 0 → Type 0
IsSinkFailure Failed P = P
IsSinkFailure NoMemory P = Unit {0}

-- the count does not fall; `Failed`, and a piece of which nothing is taken, come only where it rose
pub record WriteCause (before now : ℕ) (bytes : List ℕ) (result : Result ℕ SinkFault) : Type 0 where
  pub later : before ≤ now
  pub failed : IfErr result (λ e. IsSinkFailure e (Rose before now))
  pub nothing_taken : IfOk result (λ n. n ≡ 0 → 0 < length bytes → Rose before now)
