-- What a rule finds for a subject among the features that it is shown, all of which are near.
--
-- seen who row V f     of the view V, those around the subject f
-- cut_seen plan row V f    the findings by the plan among those seen
use Rattle.std.specs.Prelude.{List, [], filter, if◌then◌else◌}
use Rattle.topology_terms.specs.Feature.{Feature}
use Rattle.topology_terms.specs.Together.{of_side}
use Rattle.topology_terms.specs.Broken.{Row}
use Rattle.topology_terms.specs.Meaning.{Finding}
use Rattle.topology_terms.specs.Plans.{Around, Later, Own, Second, Other, side_by, Plan, WithEach, Alone, Whole, finding_of, pair_findings, whole_finding}
use Rattle.rule_loops.specs.Views.{later_of}

abbrev pub seen : Around → Row → List Feature → Feature → List Feature
seen Later row V f = filter (later_of row.origin f) V
seen Own row V f = of_side row.origin V
seen Second row V f = of_side row.dest V
seen Other row V f = of_side (side_by Other row f) V

abbrev pub cut_seen : Plan → Row → List Feature → Feature → List Finding
cut_seen (WithEach who cells) row V f = pair_findings (cells f) (seen who row V f)
cut_seen (Alone who cells) row V f = finding_of 0 (cells f (seen who row V f))
cut_seen (Whole who test) row V f = if test f (seen who row V f) then whole_finding else []
