-- A project that a text can say is one that a topology keeps.
use Rattle.std.proofs.Common.{◌≡◌, ℕ, ◌+◌, ◌<◌, ◌≤◌, List, [], ◌∷◌, Some, length, sym, subst, ◌∙◌, arith}
use Rattle.plane_terms.specs.Lists.{Every}
use Rattle.plane_terms.specs.Rectangle.{IsRectangle}
use Rattle.plane_terms.proofs.ListLemmas.{every_map}
use Rattle.topology_terms.specs.Feature.{Feature, env}
use Rattle.topology_terms.specs.Project.{Project, InForce, AreAscending, rule_at}
use Rattle.project_terms.specs.Records.{IsRecord, IsNumbered, IsError}
use Rattle.sound_laws.proofs.FeatureLists.{live_each}
use Rattle.sound_laws.proofs.Lists.{every_found, entry_key}
use Rattle.feature_store.specs.Keeps.{IsStore}
use Rattle.topo_core.specs.Topologies.{IsTopology}

-- numbers that ascend from `low` on and are at most 256
few_from : (low : ℕ) (rs : List InForce) → low ≤ 257 → AreAscending rs → Every (λ (q : InForce). low ≤ q.number) rs → Every IsNumbered rs
    → length rs + low ≤ 257
few_from low [] l a from n = omega arith
few_from low (q ∷ qs) l a from n =
    let most : q.number ≤ 256 = n.0.1 in
    let least : low ≤ q.number = from.0 in
    let rest = few_from (q.number + 1) qs (omega arith) a.1 (every_map (λ (x : InForce). q.number < x.number)
    (λ (x : InForce). q.number + 1 ≤ x.number) (λ x k. omega arith) qs a.0) n.1 in
    omega (arith, rest)

few_numbered : (rs : List InForce) → AreAscending rs → Every IsNumbered rs → length rs ≤ 256
few_numbered rs a n =
    let few = few_from 1 rs (omega arith) a (every_map IsNumbered (λ (q : InForce). 1 ≤ q.number) (λ q k. k.0) rs n) n in
    omega (arith, few)

pub record_topology : (p : Project) → IsStore p.classes p.features p.next → Every (λ (f : Feature). IsRectangle (env f)) p.features
    → IsRecord p → IsTopology p
record_topology p s rects k = record {
  store = s;
  rules = k.rules;
  few = few_numbered p.rules k.rules k.numbers;
  numbers = k.numbers;
  fit = k.fit;
  apart = k.apart;
  order = k.entries;
  made = record {
    envelopes = λ a f e. live_each (λ (g : Feature). IsRectangle (env g)) p.features a f rects e;
    frames = λ r a b e found. (every_found (IsError p) p.entries r a b e k.errors found).frame.proper;
    bare = λ r a b e found whole.
        let x = (every_found (IsError p) p.entries r a b e k.errors found).whole whole in
        (sym (entry_key p.entries r a b e found).2 ∙ x.0, x.1);
    ruled = λ r a b e found.
        let x = (every_found (IsError p) p.entries r a b e k.errors found).rule in
        (x.0, subst (λ n. rule_at p.rules n ≡ Some x.0) (entry_key p.entries r a b e found).0 x.1);
  };
  errors = λ r a b e found.
      let x = every_found (IsError p) p.entries r a b e k.errors found in
      let key = entry_key p.entries r a b e found in
      record {
        from_1 = subst (λ n. 1 ≤ n) key.1 x.from_1;
        given = subst (λ n. n < p.next) key.1 x.given;
        partner = subst (λ n. n < p.next) key.2 x.partner;
        cells = x.cells;
        some = x.some;
      };
}
