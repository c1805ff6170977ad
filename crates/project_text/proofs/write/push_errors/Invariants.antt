use Rattle.std.proofs.Common.{◌≡◌, ◌++◌}
use Rattle.std.specs.Prelude.{flat_map}
use Rattle.error_store.specs.Pairs.{entries_in}
use Rattle.project_text.specs.Pushed.{error_texts}
use Rattle.project_text.proofs.write.push_errors.Given as goal

abbrev pub invariant-loop-run : goal.invariant-loop-run
invariant-loop-run l = l.out.items ++ flat_map error_texts (entries_in l.run-iterator) ≡ l.initial.out.items ++ flat_map error_texts l.errors
