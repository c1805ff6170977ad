-- Windows as the code answers them.
--
-- IsValidateOf r c     c validates the window of the four numbers of r
-- IsNoWindow r e       the four numbers of r are no window's, and e says why
use Rattle.std.specs.Prelude.{◌≡◌}
use Rattle.plane_terms.specs.Rectangle.{Rectangle}
use Rattle.line_terms.specs.Commands.{Command, Validate, Numbers}
use Rattle.line_terms.specs.Windows.{IsWindow, IsWindowFault}
use Rattle.script_text.specs.declared.fault.LineFault.{LineFault}
use Rattle.script_text.specs.declared.fault.LineFault.TheVariants.{Refused, NoMemory}

abbrev pub IsValidateOf : Rectangle → Command → Type 0
IsValidateOf r c = (w : Rectangle) × (c ≡ Validate w) × IsWindow (Numbers r) w

abbrev pub IsNoWindow : Rectangle → LineFault → Type 0
IsNoWindow r (Refused refusal) = IsWindowFault (Numbers r) refusal
IsNoWindow r NoMemory = ⊥
