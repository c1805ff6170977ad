use Rattle.std.proofs.Common.{◌≡◌, ◌++◌}
use Rattle.std.specs.Prelude.{flat_map}
use Rattle.error_store.specs.Pairs.{entries_in}
use Rattle.project_text.specs.Pushed.{error_text}
use Rattle.reply_text.proofs.errors.push_entry_lines.Given as goal

abbrev pub invariant-loop-run : goal.invariant-loop-run
invariant-loop-run l = l.out.items ++ flat_map error_text (entries_in l.run-iterator) ≡ l.initial.out.items ++ flat_map error_text l.errors
