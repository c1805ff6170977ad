-- What the code's commands stand for.
--
-- number_of o      the number that stands in the line for a partner, or for none
-- command_of c     the command that the code's value is
use Rattle.std.specs.Prelude.{ℕ, Option}
use Rattle.std.specs.Option.{option_map_or}
use Rattle.std.specs.NonZero.{non_zero_u32_get}
use Rattle.std.specs.declared.num.NonZeroU32.{NonZeroU32}
use Rattle.line_terms.specs.Commands as commands
use Rattle.script_text.specs.declared.command.Command.{Command}
use Rattle.script_text.specs.declared.command.Command.TheVariants as command

abbrev pub number_of : Option NonZeroU32 → ℕ
number_of o = option_map_or non_zero_u32_get o 0

abbrev pub command_of : Command → commands.Command
command_of command.Blank = commands.Blank
command_of (command.Class name kind) = commands.Class name kind
command_of (command.Rule kind origin dest) = commands.Rule kind origin dest
command_of (command.DropRule rule) = commands.DropRule rule
command_of (command.Begin editor) = commands.Begin editor
command_of (command.End editor) = commands.End editor
command_of (command.Discard editor) = commands.Discard editor
command_of (command.Add editor class shape) = commands.Add editor class shape
command_of (command.Change editor handle shape) = commands.Change editor handle shape
command_of (command.Delete editor handle) = commands.Delete editor handle
command_of (command.Retype editor handle subtype) = commands.Retype editor handle subtype
command_of (command.Undo editor) = commands.Undo editor
command_of (command.Redo editor) = commands.Redo editor
command_of (command.Explode editor handle) = commands.Explode editor handle
command_of (command.Snap editor rule handle end to) = commands.Snap editor rule handle end to
command_of (command.Create editor rule handle at) = commands.Create editor rule handle at
command_of (command.Move editor from to) = commands.Move editor from to
command_of (command.Validate window) = commands.Validate window
command_of (command.Mark rule subject other) = commands.Mark rule subject (number_of other)
command_of (command.Unmark rule subject other) = commands.Unmark rule subject (number_of other)
command_of command.Dirty = commands.Dirty
command_of command.Errors = commands.Errors
command_of command.Cells = commands.Cells
command_of command.Features = commands.Features
command_of command.Rules = commands.Rules
command_of (command.Corners rule subject other) = commands.Corners rule subject (number_of other)
command_of (command.Version name) = commands.Version name
command_of (command.In name) = commands.In name
command_of (command.Reconcile name) = commands.Reconcile name
command_of (command.Post name) = commands.Post name
