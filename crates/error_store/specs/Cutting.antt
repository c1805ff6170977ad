-- A list of entries that is cut into runs, by rule and subject.
--
-- pair_of e            the rule and the subject of the entry
-- AreBehind p es       each entry is of a pair behind p
-- BeginsPast p es      the first entry, if there is one, is not of the pair p
-- IsPopped p e old new    e is the first of old and of the pair p, and new are the others
-- AreOrderedRuns m     the pairs of the map m ascend, and what stands at each is a run of it
-- AreFilled m          no run of the map is empty
use Rattle.std.specs.Prelude.{◌≡◌, ◌≢◌, List, [], ◌∷◌}
use Rattle.std.specs.BTreeMap.{BTreeMap, IsOrdered}
use Rattle.std.specs.Global.{Vec}
use Rattle.std.specs.declared.cmp.Ordering.TheVariants.{Less}
use Rattle.plane_terms.specs.Lists.{Every}
use Rattle.topology_terms.specs.Entry.{Entry}
use Rattle.error_store.specs.Pairs.{pair, pair_cmp, AreRuns}
use Rattle.error_store.specs.declared.pair.Pair.{Pair}

abbrev pub pair_of : Entry → Pair
pair_of e = pair e.rule e.subject

abbrev pub AreBehind : Pair → List Entry → Type 0
AreBehind p es = Every (λ (e : Entry). pair_cmp p (pair_of e) ≡ Less) es

abbrev pub BeginsPast : Pair → List Entry → Type 0
BeginsPast p [] = Unit {0}
BeginsPast p (e ∷ es) = ¬ (pair_of e ≡ p)

pub record IsPopped (p : Pair) (e : Entry) (old new : List Entry) : Type 0 where
  pub own : pair_of e ≡ p
  pub first : old ≡ e ∷ new

pub record AreOrderedRuns (m : BTreeMap Pair (Vec Entry)) : Type 0 where
  pub ordered : IsOrdered pair_cmp m
  pub runs : AreRuns m

abbrev pub AreFilled : BTreeMap Pair (Vec Entry) → Type 0
AreFilled m = Every (λ (q : Pair × Vec Entry). q.1.items ≢ []) m.entries
