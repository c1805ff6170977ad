-- How often rules are tried: a count that stops.
--
-- raised n k           n raised by k, up to the greatest number of 64 bits
-- judged_of rules fs   how many pairs there are of a rule and one of these features that it judges
use Rattle.std.specs.Prelude.{ℕ, ◌+◌, List, min, max}
use Rattle.std.specs.List.{sum_by}
use Rattle.plane_terms.specs.Lists.{how_many}
use Rattle.topology_terms.specs.Feature.{Feature}
use Rattle.topology_terms.specs.Broken.{judged}
use Rattle.topology_terms.specs.Project.{InForce}

abbrev pub raised : ℕ → ℕ → ℕ
raised n k = max n (min (n + k) 18446744073709551615)

abbrev pub judged_of : List InForce → List Feature → ℕ
judged_of rules fs = sum_by (λ (rule : InForce). how_many (judged rule.row) fs) rules
