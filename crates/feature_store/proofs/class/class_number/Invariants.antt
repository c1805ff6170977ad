use Rattle.std.proofs.Common.{◌≡◌, ◌+◌, drop}
use Rattle.topology_terms.specs.Lookups.{number_from}
use Rattle.feature_store.proofs.class.class_number.Given as goal

abbrev pub invariant-loop-class : goal.invariant-loop-class
invariant-loop-class l = record {
  number : l.number ≡ l.class-index + 1;
  found : number_from l.number (drop l.class-index l.classes) l.name ≡ number_from 1 l.classes l.name;
}
