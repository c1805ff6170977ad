-- Errors in runs: of each pair of a rule and a subject those that are of both.
--
-- pair r a             the rule r and the subject a
-- pair_cmp p q         how pairs stand: by rule, and then by subject
-- IsPairBefore p q     the pair p stands before the pair q
-- entries_in vs        the entries of the runs vs, one run after another
-- all_entries m        the entries of the map m, in the order of the pairs
-- IsOf r a e           e is of the rule r and the subject a
-- IsRunOf p es         es ascend by key, and are of the pair p
-- AreRuns m            what stands at each pair of the map m is a run of it
use Rattle.std.specs.Prelude.{◌≡◌, ◌⊎◌, ℕ, ◌<◌, List}
use Rattle.std.specs.BTreeMap.{BTreeMap, values}
use Rattle.std.specs.Global.{Vec}
use Rattle.std.specs.List.{flat_map}
use Rattle.std.specs.Ordering.{nat_cmp, ordering_then}
use Rattle.std.specs.declared.cmp.Ordering.{Ordering}
use Rattle.plane_terms.specs.Lists.{Every}
use Rattle.topology_terms.specs.Entry.{Entry, IsAscending}
use Rattle.error_store.specs.declared.pair.Pair.{Pair}

abbrev pub pair : ℕ → ℕ → Pair
pair r a = record { rule = r; subject = a }

abbrev pub pair_cmp : Pair → Pair → Ordering
pair_cmp p q = ordering_then (nat_cmp p.rule q.rule) (nat_cmp p.subject q.subject)

abbrev pub IsPairBefore : Pair → Pair → Type 0
IsPairBefore p q = (p.rule < q.rule) ⊎ ((p.rule ≡ q.rule) × (p.subject < q.subject))

abbrev pub entries_in : List (Vec Entry) → List Entry
entries_in vs = flat_map (λ v. v.items) vs

abbrev pub all_entries : BTreeMap Pair (Vec Entry) → List Entry
all_entries m = entries_in (values m)

pub record IsOf (r a : ℕ) (e : Entry) : Type 0 where
  pub rule : e.rule ≡ r
  pub subject : e.subject ≡ a

abbrev pub IsRunOf : Pair → List Entry → Type 0
IsRunOf p es = IsAscending es × Every (IsOf p.rule p.subject) es

abbrev pub AreRuns : BTreeMap Pair (Vec Entry) → Type 0
AreRuns m = Every (λ q. IsRunOf q.0 q.1.items) m.entries
