-- The faults of texts and lines as the code answers them; out of memory says nothing.
--
-- fault_of e            why a text is no shape's, as a line is refused for it
-- IsFormFault line e    the line has a form that is no command, and e says why
-- IsFault line e        the line is no command's, and e says why
-- IsRead line r         what a reader finds in a line that has a form: the command, or why it is none
use Rattle.std.specs.Prelude.{ℕ, List, Result, MatchResult}
use Rattle.line_terms.specs.Lines.{IsLineFault, HasFaultyForm, IsSpelling}
use Rattle.line_terms.specs.declared.line_refusal.LineRefusal.TheVariants as refusal
use Rattle.wkt_terms.specs.declared.wkt_fault.WktFault.{WktFault}
use Rattle.wkt_terms.specs.declared.wkt_fault.WktFault.TheVariants as text
use Rattle.script_text.specs.declared.command.Command.{Command}
use Rattle.script_text.specs.declared.fault.LineFault.{LineFault}
use Rattle.script_text.specs.declared.fault.LineFault.TheVariants.{Refused, NoMemory}
use Rattle.script_text.specs.Seen.{command_of}

abbrev pub fault_of : WktFault → LineFault
fault_of (text.Syntax at) = Refused refusal.NotALine
fault_of (text.OffGrid at) = Refused (refusal.OffGrid at)
fault_of (text.OutOfReach at) = Refused (refusal.OutOfReach at)
fault_of (text.Unsupported at) = Refused (refusal.Unsupported at)
fault_of (text.NotClosed ring) = Refused (refusal.NotClosed ring)
fault_of (text.Invalid fault) = Refused (refusal.Invalid fault)
fault_of text.NoMemory = NoMemory

abbrev pub IsFormFault : List ℕ → LineFault → Type 0
IsFormFault line (Refused r) = HasFaultyForm line r
IsFormFault line NoMemory = Unit {0}

abbrev pub IsFault : List ℕ → LineFault → Type 0
IsFault line (Refused r) = IsLineFault line r
IsFault line NoMemory = Unit {0}

abbrev pub IsRead : List ℕ → Result Command LineFault → Type 0
IsRead line r = MatchResult r (λ c. IsSpelling line (command_of c)) (λ e. IsFormFault line e)
