use Rattle.std.proofs.Common.{◌≡◌, drop}
use Rattle.command_answers.specs.Planned.{first_other}
use Rattle.command_answers.proofs.fixes.first_holder.Given as goal

abbrev pub invariant-loop-handle : goal.invariant-loop-handle
invariant-loop-handle l = first_other l.sessions (drop l.handle-index l.handles) l.editor ≡ first_other l.sessions l.handles l.editor
