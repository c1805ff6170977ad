-- What a mark that is set leaves of the errors, and why it is not set.
--
-- IsMarkSet r a b on old new    the mark of the error of this key is on, or off, and all else of it is as it was; all other errors stay
-- fault_cause e                 the cause that a fault tells
use Rattle.std.specs.Prelude.{◌≡◌, ℕ, Bool, List, Some}
use Rattle.topology_terms.specs.Changes.{SameButMark}
use Rattle.topology_terms.specs.Entry.{Entry, entry_at}
use Rattle.topology_terms.specs.declared.cause.Cause.{Cause}
use Rattle.topology_terms.specs.declared.cause.Cause.TheVariants as cause
use Rattle.error_store.specs.declared.fault.MarkFault.{MarkFault}
use Rattle.error_store.specs.declared.fault.MarkFault.TheVariants as fault

pub record IsMarkSet (r a b : ℕ) (on : Bool) (old new : List Entry) : Type 0 where
  pub entries : (k c d : ℕ) → SameButMark (entry_at old k c d) (entry_at new k c d)
  pub here : (e : Entry) → entry_at new r a b ≡ Some e → e.marked ≡ on
  pub others : (k c d : ℕ) → ¬ ((k ≡ r) × (c ≡ a) × (d ≡ b)) → entry_at new k c d ≡ entry_at old k c d

abbrev pub fault_cause : MarkFault → Cause
fault_cause fault.NoError = cause.NoError
fault_cause fault.AlreadySo = cause.AlreadySo
