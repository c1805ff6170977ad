-- Faults of tokens.
--
-- fault_at stop at     the fault of a text of which a step was not done, at this place
-- IsOfToken P e        e is the fault of a token, of whose place and cause P holds, and neither a ring's nor a shape's; out of memory may
--                      come at any time
-- Refuses text e       the text has its first fault where e says, for the cause that e tells
-- HasStopped r at e    a step was not done, at this place and for the cause that e tells
use Rattle.std.specs.Prelude.{ℕ, ◌≡◌, List, Result, Err}
use Rattle.wkt_terms.specs.Faults.{Cause, IsSyntax, IsOffGrid, IsOutOfReach, IsUnsupported, FirstFault}
use Rattle.wkt_terms.specs.declared.wkt_fault.WktFault.{WktFault}
use Rattle.wkt_terms.specs.declared.wkt_fault.WktFault.TheVariants.{Syntax, OffGrid, OutOfReach, Unsupported, NotClosed, Invalid, NoMemory}
use Rattle.wkt_laws.specs.Steps as steps
use Rattle.wkt_text.specs.declared.stop.Cause.TheVariants as cause
use Rattle.wkt_text.specs.declared.stop.Stop.{Stop}
use Rattle.wkt_text.specs.declared.stop.Stop.TheVariants as stop

abbrev pub fault_at : Stop → ℕ → WktFault
fault_at (stop.Refused cause.Syntax) at = Syntax at
fault_at (stop.Refused cause.OffGrid) at = OffGrid at
fault_at (stop.Refused cause.OutOfReach) at = OutOfReach at
fault_at (stop.Refused cause.Unsupported) at = Unsupported at
fault_at stop.NoMemory at = NoMemory

abbrev pub IsOfToken : (ℕ → Cause → Type 0) → WktFault → Type 0
IsOfToken P (Syntax at) = P at IsSyntax
IsOfToken P (OffGrid at) = P at IsOffGrid
IsOfToken P (OutOfReach at) = P at IsOutOfReach
IsOfToken P (Unsupported at) = P at IsUnsupported
IsOfToken P (NotClosed ring) = ⊥
IsOfToken P (Invalid f) = ⊥
IsOfToken P NoMemory = Unit {0}

abbrev pub Refuses : List ℕ → WktFault → Type 0
Refuses text e = IsOfToken (λ at cause. FirstFault text at cause) e

abbrev pub HasStopped : Result steps.State Cause → ℕ → WktFault → Type 0
HasStopped r at e = IsOfToken (λ place cause. (r ≡ Err cause) × (place ≡ at)) e
