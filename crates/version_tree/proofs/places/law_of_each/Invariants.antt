use Rattle.std.proofs.Common.{take}
use Rattle.version_tree.specs.Trees.{AreLawful}
use Rattle.version_tree.proofs.places.law_of_each.Given as goal

abbrev pub invariant-loop-version : goal.invariant-loop-version
invariant-loop-version g l = AreLawful (take l.version-index l.versions)
