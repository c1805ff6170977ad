use Rattle.std.proofs.Common.{◌≡◌, ◌++◌, take, Some}
use Rattle.std.specs.Prelude.{flat_map}
use Rattle.topology_terms.specs.Feature.{Class}
use Rattle.project_text.specs.Pushed.{class_text}
use Rattle.project_text.proofs.write.push_classes.Given as goal

abbrev pub invariant-loop-before : goal.invariant-loop-before
invariant-loop-before l = l.out.items ≡ l.initial.out.items ++ flat_map (λ (c : Class). class_text (Some c)) (take l.before l.store.classes)
