-- A list of rules in force that ascends by number, and a rule more or less.
--
-- lower_from i n rs    i, and one more for each rule whose number is below n
-- with_rule rs q       the list with the rule q before the first of a higher number
-- without_rule rs n   the list without the rule of the number n, in its order
use Rattle.std.specs.Prelude.{ℕ, ◌+◌, ltb, List, [], ◌∷◌, if◌then◌else◌}
use Rattle.topology_terms.specs.Keyed.{without}
use Rattle.topology_terms.specs.Project.{InForce, by_number}

abbrev pub lower_from : ℕ → ℕ → List InForce → ℕ
lower_from i n [] = i
lower_from i n (q ∷ qs) = if ltb q.number n then lower_from (i + 1) n qs else lower_from i n qs

abbrev pub with_rule : List InForce → InForce → List InForce
with_rule [] r = r ∷ []
with_rule (q ∷ qs) r = if ltb q.number r.number then q ∷ with_rule qs r else r ∷ q ∷ qs

abbrev pub without_rule : List InForce → ℕ → List InForce
without_rule rs n = without by_number rs n
