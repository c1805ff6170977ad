-- The errors of one full validation from scratch, as a list.
--
-- Found                an error without its mark and its frame: its rule, its subject, and what is found
-- found_of e           what is so of the error e
-- from_scratch p       of the project p: under each rule in force, of each live feature, what the rule cuts; in the order of the rules'
--                      numbers, then of the features' handles, then of the partners
-- IsFrameOf F e        the frame of the error e is the least round its cells or, of the whole, the envelope of its live subject
-- AreFromScratch p es  the errors es are those, marks aside
--
-- It names no dirt and no errors that were there before. Source: own.
use Rattle.std.specs.Prelude.{◌≡◌, ℕ, true, false, List, map, flat_map, Some}
use Rattle.plane_terms.specs.Lists.{Every}
use Rattle.plane_terms.specs.Cell.{IsLeastFrame}
use Rattle.topology_terms.specs.Feature.{Feature, feature_at, env}
use Rattle.topology_terms.specs.Meaning.{Finding}
use Rattle.topology_terms.specs.Plans.{cutting_of}
use Rattle.topology_terms.specs.Entry.{Entry}
use Rattle.topology_terms.specs.Project.{InForce, Project}

abbrev pub Found : Type 0
Found = ℕ × ℕ × Finding

abbrev pub found_of : Entry → Found
found_of e = (e.rule, e.subject, record { other = e.other; whole = e.whole; cells = e.cells })

abbrev pub found_under : List Feature → InForce → List Found
found_under F q = flat_map (λ (f : Feature). map (λ (x : Finding). (q.number, f.handle, x)) (cutting_of q.row F f)) F

abbrev pub from_scratch : Project → List Found
from_scratch p = flat_map (found_under p.features) p.rules

pub record IsFrameOf (F : List Feature) (e : Entry) : Type 0 where
  pub cells : e.whole ≡ false → IsLeastFrame e.frame e.cells
  pub whole : e.whole ≡ true → (f : Feature) × (feature_at F e.subject ≡ Some f) × (e.frame ≡ env f)

pub record AreFromScratch (p : Project) (es : List Entry) : Type 0 where
  pub listed : map found_of es ≡ from_scratch p
  pub framed : Every (IsFrameOf p.features) es
