-- How often rules from outside are asked: a subject is asked about once for each rule in force that tells a word and judges it, if the
-- first rule from outside of that word takes features of its kind.
--
-- place_of outs w k    the place, from 0, of the first that has the word w, if it takes features of the kind k
-- place_from n outs w k    the same, where the first of the list stands at the place n
-- is_place o i         the place o is there, and it is i
-- asks_by o outs i row f   the test whether the one at the place i is asked about f for the row, of which the word o is told
-- asked_of pick outs rules fs i    how many pairs there are of a rule in force and one of these features of which the one at i is asked
-- one_if t             1 where the test is true, else 0
-- AreRaised k old new      of counts: that at each place i is raised by k i, up to the greatest number of 64 bits
-- AreRaisedWithin k old new    each is raised by no more
--
-- Waits for: the contract of a run with rules from outside.
use Rattle.std.specs.Prelude.{◌≡◌, ◌≤◌, ◌+◌, ◌==◌, ℕ, Bool, false, ◌&&◌, List, [], ◌∷◌, Option, None, Some, get_or, bytes_eq, if◌then◌else◌}
use Rattle.std.specs.List.{sum_by}
use Rattle.plane_terms.specs.Lists.{how_many}
use Rattle.plane_terms.specs.declared.kind.Kind.{Kind}
use Rattle.topology_terms.specs.Causes.{same_kind}
use Rattle.topology_terms.specs.Counts.{raised}
use Rattle.topology_terms.specs.Feature.{Feature}
use Rattle.topology_terms.specs.Broken.{Row, judged}
use Rattle.topology_terms.specs.Project.{InForce}
use Rattle.outside_rule_terms.specs.Outside.{Outside}

abbrev pub place_from : ℕ → List Outside → List ℕ → Kind → Option ℕ
place_from n [] w k = None
place_from n (o ∷ outs) w k = if bytes_eq o.word w then (if same_kind k o.kind then Some n else None) else place_from (n + 1) outs w k

abbrev pub place_of : List Outside → List ℕ → Kind → Option ℕ
place_of outs w k = place_from 0 outs w k

abbrev pub is_place : Option ℕ → ℕ → Bool
is_place None i = false
is_place (Some n) i = n == i

abbrev pub asks_by : Option (List ℕ) → List Outside → ℕ → Row → Feature → Bool
asks_by None outs i row f = false
asks_by (Some w) outs i row f = judged row f && is_place (place_of outs w f.shape.kind) i

abbrev pub asked_of : (Row → Option (List ℕ)) → List Outside → List InForce → List Feature → ℕ → ℕ
asked_of pick outs rules fs i = sum_by (λ (f : Feature). how_many (λ (q : InForce). asks_by (pick q.row) outs i q.row f) rules) fs

abbrev pub one_if : Bool → ℕ
one_if t = if t then 1 else 0

abbrev pub AreRaised : (ℕ → ℕ) → List ℕ → List ℕ → Type 0
AreRaised k old new = (i : ℕ) → get_or new i 0 ≡ raised (get_or old i 0) (k i)

abbrev pub AreRaisedWithin : (ℕ → ℕ) → List ℕ → List ℕ → Type 0
AreRaisedWithin k old new = (i : ℕ) → get_or new i 0 ≤ raised (get_or old i 0) (k i)
