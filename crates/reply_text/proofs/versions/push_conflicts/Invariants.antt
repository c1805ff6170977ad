use Rattle.std.proofs.Common.{◌≡◌, ◌++◌, take}
use Rattle.std.specs.Prelude.{flat_map}
use Rattle.script_terms.specs.Reply.{conflict_line}
use Rattle.reply_text.proofs.versions.push_conflicts.Given as goal

abbrev pub invariant-loop-handle : goal.invariant-loop-handle
invariant-loop-handle l = l.out.items ≡ l.initial.out.items ++ flat_map conflict_line (take l.handle-index l.handles)
