-- Cells carved by one list after the other: by two rows of lists, and where nothing is left.
use Rattle.std.proofs.Common.{◌≡◌, List, [], ◌∷◌, ◌++◌, refl, length, arith}
use Rattle.plane_terms.specs.Cell.{Cell}
use Rattle.plane_terms.specs.Carve.{carve_of}
use Rattle.topology_terms.specs.Cells.{uncovered}
use Rattle.rule_loops.specs.Apart.{uncovered-nil}

pub uncovered-append : (cs : List Cell) (dss ess : List (List Cell)) → uncovered cs (dss ++ ess) ≡ uncovered (uncovered cs dss) ess
uncovered-append cs [] ess = refl
uncovered-append cs (ds ∷ dss) ess = uncovered-append (carve_of cs ds) dss ess

-- where nothing is left, what comes after it does not matter
pub stopped : (cs left : List Cell) (all dss ess : List (List Cell)) → all ≡ dss ++ ess → left ≡ uncovered cs dss → length left ≡ 0 → left
    ≡ uncovered cs all
stopped cs [] all dss ess a e n = rw (a, uncovered-append cs dss ess, ← e, uncovered-nil ess) refl
stopped cs (c ∷ left) all dss ess a e n = absurd (omega arith)
