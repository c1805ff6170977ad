-- What every topology keeps, and what the types of its parts keep, is that a text can say it.
use Rattle.std.proofs.Common.{◌≡◌, ◌<◌, ◌≤◌, ℕ, List, [], ◌∷◌, Some, sym, subst, ◌∙◌}
use Rattle.plane_terms.specs.Lists.{Every}
use Rattle.topology_terms.specs.Feature.{Feature}
use Rattle.topology_terms.specs.Broken.{Row}
use Rattle.topology_terms.specs.Entry.{Entry, entry_at, by_key}
use Rattle.topology_terms.specs.Project.{Project, rule_at, by_number}
use Rattle.project_terms.specs.Records.{IsRecord, IsNumbered, HasSmallSides, IsPlaced, IsError}
use Rattle.sound_laws.proofs.Keyed as keyed
use Rattle.sound_laws.proofs.Lists.{keys, entry_key, every_found}
use Rattle.sound_laws.proofs.RuleLists.{rule_numbers, found_rule}
use Rattle.dirty_area.specs.Parts.{IsDirt}
use Rattle.feature_store.specs.Keeps.{IsGiven, IsOfClass}
use Rattle.topo_core.specs.Topologies.{IsTopology, IsNamed, IsFormed, IsDrawn}

-- the number of a rule in force
numbered : (p : Project) → IsTopology p → (e : Entry) (r : ℕ) → e.rule ≡ r → (row : Row) → rule_at p.rules r ≡ Some row
    → (1 ≤ e.rule) × (e.rule ≤ 256)
numbered p t e r same row there =
    let q = found_rule p.rules r row there in
    let own = keyed.key_found by_number rule_numbers p.rules r q.rule q.found in
    subst (λ n. (1 ≤ n) × (n ≤ 256)) (own ∙ sym same) (keyed.every_found by_number rule_numbers IsNumbered p.rules r q.rule t.numbers
    q.found)

error : (p : Project) → IsTopology p → Every IsDrawn p.entries → (r a b : ℕ) (e : Entry) → entry_at p.entries r a b ≡ Some e → IsError p e
error p t drawn r a b e found =
    let key = entry_key p.entries r a b e found in
    let x = t.errors r a b e found in
    let d = every_found IsDrawn p.entries r a b e drawn found in
    let ruled = t.made.ruled r a b e found in
    record {
      from_1 = subst (λ n. 1 ≤ n) (sym key.1) x.from_1;
      given = subst (λ n. n < p.next) (sym key.1) x.given;
      partner = subst (λ n. n < p.next) (sym key.2) x.partner;
      frame = d.frame;
      whole = λ whole. let bare = t.made.bare r a b e found whole in (key.2 ∙ bare.0, bare.1);
      cells = x.cells;
      some = x.some;
      halves = d.halves;
      rule = (ruled.0, subst (λ n. rule_at p.rules n ≡ Some ruled.0) (sym key.0) ruled.1);
      numbered = numbered p t e r key.0 ruled.0 ruled.1;
    }

errors : (p : Project) → IsTopology p → Every IsDrawn p.entries → Every (IsError p) p.entries
unfolding entry_at
errors p t drawn = keyed.each_found by_key keys (IsError p) p.entries t.order (λ k e found. error p t drawn k.0 k.1 k.2 e found)

placed : (p : Project) (F : List Feature) → Every (IsGiven p.next) F → Every (IsOfClass p.classes) F
    → Every IsFormed F → Every (IsPlaced p) F
placed p [] given kinds formed = tt
placed p (f ∷ F) given kinds formed = (
  record { from_1 = given.0.from_1; given = given.0.before; kind = kinds.0; subtype = formed.0.subtype; shape = formed.0.shape },
  placed p F given.1 kinds.1 formed.1,
)

pub topology_record : (p : Project) → IsTopology p → p.next ≤ 4294967295 → Every IsNamed p.classes
    → Every IsFormed p.features → Every HasSmallSides p.rules → IsDirt p.dirt → Every IsDrawn p.entries → IsRecord p
topology_record p t low names formed small dirt drawn = record {
  next = (t.store.from_1, low);
  few = t.store.few;
  names = names;
  unlike = t.store.names;
  numbers = t.numbers;
  rules = t.rules;
  sides = small;
  fit = t.fit;
  apart = t.apart;
  placed = placed p p.features t.store.given t.store.kinds formed;
  features = t.store.ascending;
  rectangles = dirt.on_grid;
  loose = dirt.loose;
  errors = errors p t drawn;
  entries = t.order;
}
