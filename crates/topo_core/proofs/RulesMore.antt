-- A rule more keeps what every topology keeps, and what it keeps of the rules' meaning.
use Rattle.std.proofs.Common.{◌≡◌, ◌≢◌, ◌<◌, ◌≤◌, inl, inr, ℕ, true, false, List, None, length, refl, ◌∙◌, arith}
use Rattle.plane_terms.specs.Rectangle.{Rectangle, whole_grid}
use Rattle.plane_terms.specs.Dirt.{add_dirt}
use Rattle.topology_terms.specs.Broken.{Row}
use Rattle.topology_terms.specs.Causes.{is_fit, is_row, is_there}
use Rattle.topology_terms.specs.Meaning.{Meaning, Laws}
use Rattle.topology_terms.specs.Entry.{Entry}
use Rattle.topology_terms.specs.Project.{Project, InForce, rule_at}
use Rattle.topology_terms.specs.Changes.{IsRuleAdded}
use Rattle.topology_terms.specs.Sound.{IsSoundUnder}
use Rattle.topology_terms.specs.Settled.{IsSettledUnder}
use Rattle.sound_laws.proofs.Edits.{same_or_not}
use Rattle.sound_laws.proofs.RuleChanges.{add_rule_sound}
use Rattle.sound_laws.proofs.Settling.{add_rule_settled}
use Rattle.feature_store.specs.Stored.{Stored}
use Rattle.project_terms.specs.Records.{IsNumbered}
use Rattle.rule_core.specs.Kinds.{TakesKinds}
use Rattle.topo_core.specs.RuleLists.{with_rule}
use Rattle.topo_core.specs.Topologies.{IsTopology, project_of}
use Rattle.topo_core.proofs.Rows.{apart_back, each_other}
use Rattle.topo_core.proofs.RuleLists.{with_here, with_others, with_length, with_every, with_pairs, with_ascending}
use Rattle.topo_core.proofs.Whole.{valid}

-- the least number from 1 that no rule has
pub record IsLeastFree (rules : List InForce) (n : ℕ) : Type 0 where
  pub from_1 : 1 ≤ n
  pub free : rule_at rules n ≡ None
  pub least : (k : ℕ) → 1 ≤ k → k < n → rule_at rules k ≢ None

pub rule_added : (n : ℕ) (row : Row) (s : Stored) (rules more : List InForce) (d e : List Rectangle) (es : List Entry)
    → IsLeastFree rules n → more ≡ with_rule rules (record { number = n; row = row }) → e ≡ add_dirt d whole_grid
    → IsRuleAdded n row (project_of s rules d es) (project_of s more e es)
rule_added n row s rules more d e es number m dirt =
    let q : InForce = record { number = n; row = row } in
    record {
      from_1 = number.from_1;
      free = number.free;
      least = number.least;
      here = rw m (with_here rules q number.free);
      others = λ k o. rw m (with_others rules q k o);
      classes = refl;
      next = refl;
      features = refl;
      dirt = dirt;
      entries = refl;
    }

pub rule_keeps : (n : ℕ) (row : Row) (s : Stored) (rules more : List InForce) (d e : List Rectangle) (es : List Entry)
    → rule_at rules n ≡ None → (1 ≤ n) × (n ≤ 256) → length rules < 256 → more ≡ with_rule rules (record { number = n; row = row })
    → IsTopology (project_of s rules d es) → is_fit s.classes row ≡ true → is_there rules row ≡ false → IsTopology (project_of s more e es)
rule_keeps n row s rules more d e es free number left m t fit absent =
    let q : InForce = record { number = n; row = row } in
    record {
      store = t.store;
      rules = rw m (with_ascending rules q free t.rules);
      few = let one = with_length rules q in rw m (omega (arith, one, left));
      numbers = rw m (with_every IsNumbered rules q t.numbers number);
      fit = rw m (with_every (λ (x : InForce). is_fit s.classes x.row ≡ true) rules q t.fit fit);
      apart = rw m (with_pairs (λ (x y : InForce). is_row x.row y.row ≡ false) (λ x y. apart_back x.row y.row) rules q
          (each_other row rules absent) t.apart);
      order = t.order;
      made = record {
        envelopes = t.made.envelopes;
        frames = t.made.frames;
        bare = t.made.bare;
        ruled = λ r a b x k. elim (same_or_not r n) [
          | inl u ↦ (row, rw (u, m) (with_here rules q free))
          | inr u ↦ let y = t.made.ruled r a b x k in (y.0, rw m (with_others rules q r u ∙ y.1))
        ];
      };
      errors = t.errors;
    }

pub rule_sound : (M : Meaning) → Laws M → TakesKinds M → (n : ℕ) (row : Row) (old new : Project)
    → IsTopology old → IsTopology new → IsRuleAdded n row old new → IsSoundUnder M old → IsSoundUnder M new
rule_sound M L K n row old new t u i s = add_rule_sound M L n row old new (valid M K old t) (valid M K new u) i s

pub rule_settled : (M : Meaning) → TakesKinds M → (n : ℕ) (row : Row) (old new : Project)
    → IsTopology old → IsRuleAdded n row old new → IsSettledUnder M old → IsSettledUnder M new
rule_settled M K n row old new t i s = add_rule_settled M n row old new (valid M K old t) i s
