-- A rule less keeps what every topology keeps.
use Rattle.std.proofs.Common.{◌≡◌, ◌≢◌, ◌≤◌, arith, length, inl, inr, ℕ, Bool, true, false, List, [], ◌∷◌, None, Some, refl, sym, ◌∙◌}
use Rattle.std.specs.Prelude.{not, ◌==◌}
use Rattle.std.proofs.lemmas.Bool.Decides.{eqb_tells}
use Rattle.plane_terms.specs.Rectangle.{Rectangle}
use Rattle.topology_terms.specs.Entry.{Entry, entry_at}
use Rattle.topology_terms.specs.Entry as entries
use Rattle.topology_terms.specs.Project.{InForce, by_number}
use Rattle.topology_terms.specs.Causes.{is_fit, is_row}
use Rattle.topology_terms.specs.Changes.{IsRuleDropped}
use Rattle.plane_terms.proofs.ListLemmas.{every_filter}
use Rattle.sound_laws.proofs.Keyed.{ascending_filter}
use Rattle.sound_laws.proofs.RuleLists.{rule_numbers, without_here, without_others}
use Rattle.feature_store.specs.Stored.{Stored}
use Rattle.project_terms.specs.Records.{IsNumbered}
use Rattle.topo_core.specs.RuleLists.{without_rule}
use Rattle.topo_core.specs.Topologies.{IsTopology, project_of}
use Rattle.topo_core.proofs.RuleLists.{pairs_filter}

-- the rule has another number
abbrev pub is_other : ℕ → InForce → Bool
is_other n q = not (q.number == n)

without_length : (rs : List InForce) (n : ℕ) → length (without_rule rs n) ≤ length rs
without_length [] n = omega arith
without_length (q ∷ qs) n = let l = without_length qs n in elim (eqb_tells q.number n) [
  | inl t ↦ rw t.0 (omega (arith, l))
  | inr t ↦ rw t.0 (omega (arith, l))
]

-- the entries that are left: those of the other rules
pub record AreLeft (n : ℕ) (old new : List Entry) : Type 0 where
  pub gone : (a b : ℕ) → entry_at new n a b ≡ None
  pub kept : (k a b : ℕ) → k ≢ n → entry_at new k a b ≡ entry_at old k a b

pub rule_dropped : (n : ℕ) (s : Stored) (rules less : List InForce) (d : List Rectangle) (es fs : List Entry)
    → less ≡ without_rule rules n → AreLeft n es fs → IsRuleDropped n (project_of s rules d es) (project_of s less d fs)
rule_dropped n s rules less d es fs l e = record {
  here = rw l (without_here rules n);
  others = λ k o. rw l (without_others rules n k o);
  classes = refl;
  next = refl;
  features = refl;
  dirt = refl;
  gone = e.gone;
  kept = e.kept;
}

pub rule_leaves : (n : ℕ) (s : Stored) (rules less : List InForce) (d : List Rectangle) (es fs : List Entry)
    → less ≡ without_rule rules n → AreLeft n es fs → entries.IsAscending fs → IsTopology (project_of s rules d es)
    → IsTopology (project_of s less d fs)
rule_leaves n s rules less d es fs l left order t = record {
  store = t.store;
  rules = rw l (ascending_filter by_number rule_numbers (is_other n) rules t.rules);
  few = let short = without_length rules n in let few = t.few in rw l (omega (arith, short, few));
  numbers = rw l (every_filter IsNumbered (is_other n) rules t.numbers);
  fit = rw l (every_filter (λ (q : InForce). is_fit s.classes q.row ≡ true) (is_other n) rules t.fit);
  apart = rw l (pairs_filter (λ (q r : InForce). is_row q.row r.row ≡ false) (is_other n) rules t.apart);
  order = order;
  made = record {
    envelopes = t.made.envelopes;
    frames = λ r a b e k. t.made.frames r a b e (sym (left.kept r a b (apart r a b e k)) ∙ k);
    bare = λ r a b e k w. t.made.bare r a b e (sym (left.kept r a b (apart r a b e k)) ∙ k) w;
    ruled = λ r a b e k.
        let y = t.made.ruled r a b e (sym (left.kept r a b (apart r a b e k)) ∙ k) in
        (y.0, rw l (without_others rules n r (apart r a b e k) ∙ y.1));
  };
  errors = λ r a b e k. t.errors r a b e (sym (left.kept r a b (apart r a b e k)) ∙ k);
}
  where
    apart : (r a b : ℕ) (e : Entry) → entry_at fs r a b ≡ Some e → r ≢ n
    apart r a b e k same = let x : None ≡ Some e = sym (left.gone a b) ∙ (rw same at k) in absurd cc
