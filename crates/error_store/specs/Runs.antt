-- Where the runs of some subjects stand in a map by pairs.
--
-- is_of as e              the subject of the entry e is one of as
-- IsLeastFrom as from a   a is the least of as that is not below from
-- IsLastOff as p q        q is p, or a later pair of its rule, and no subject from that of p up to that of q is one of as
-- HasNoneFrom as m lo     from lo on no pair of one of the subjects as has a run in m
-- ArePairsOf as m ps      ps are the pairs of the subjects as that have a run in m
-- IsNextRun as m lo p v   from lo on p is the first pair of one of the subjects as that has a run in m, and v is that run
use Rattle.std.specs.Prelude.{◌≡◌, ◌↔◌, ℕ, ◌≤◌, Bool, nat_eq, List, None, Some, Contains, IsSome}
use Rattle.std.specs.BTreeMap.{BTreeMap, get}
use Rattle.std.specs.BTreeMap.Range.{IsFromStart}
use Rattle.std.specs.Global.{Vec}
use Rattle.std.specs.List.{list_any}
use Rattle.std.specs.declared.ops.Bound.{Bound}
use Rattle.topology_terms.specs.Entry.{Entry}
use Rattle.error_store.specs.Pairs.{pair_cmp, IsPairBefore}
use Rattle.error_store.specs.declared.pair.Pair.{Pair}

abbrev pub is_of : List ℕ → Entry → Bool
is_of handles e = list_any (nat_eq e.subject) handles

pub record IsLeastFrom (handles : List ℕ) (from a : ℕ) : Type 0 where
  pub there : Contains handles a
  pub beyond : from ≤ a
  pub least : (b : ℕ) → Contains handles b → from ≤ b → a ≤ b

pub record IsLastOff (handles : List ℕ) (p q : Pair) : Type 0 where
  pub rule : q.rule ≡ p.rule
  pub on : p.subject ≤ q.subject
  pub none : (a : ℕ) → Contains handles a → p.subject ≤ a → ¬ (a ≤ q.subject)

abbrev pub HasNoneFrom : List ℕ → BTreeMap Pair (Vec Entry) → Bound Pair → Type 0
HasNoneFrom handles m lo = (p : Pair) → IsFromStart pair_cmp lo p → Contains handles p.subject → get pair_cmp m p ≡ None

abbrev pub ArePairsOf : List ℕ → BTreeMap Pair (Vec Entry) → List Pair → Type 0
ArePairsOf handles m ps = (p : Pair) → Contains ps p ↔ (Contains handles p.subject × IsSome (get pair_cmp m p))

pub record IsNextRun (handles : List ℕ) (m : BTreeMap Pair (Vec Entry)) (lo : Bound Pair) (p : Pair) (v : Vec Entry) : Type 0 where
  pub on : IsFromStart pair_cmp lo p
  pub chosen : Contains handles p.subject
  pub run : get pair_cmp m p ≡ Some v
  pub none : (q : Pair) → IsFromStart pair_cmp lo q → IsPairBefore q p → Contains handles q.subject → get pair_cmp m q ≡ None
