-- Each change keeps what every topology keeps, and what it keeps of the rules' meaning.
use Rattle.std.proofs.Common.{◌≡◌, ◌≤◌, inl, inr, ℕ, true, List, [], ◌∷◌, ◌++◌, Option, Some, refl, sym, subst, ap, ◌∙◌, arith}
use Rattle.std.specs.Option.{IfSome}
use Rattle.plane_terms.specs.Lists.{Every, IsThose}
use Rattle.plane_terms.proofs.ListLemmas.{every_map}
use Rattle.plane_terms.specs.Rectangle.{Rectangle, IsRectangle}
use Rattle.plane_terms.specs.declared.kind.Kind.{Kind}
use Rattle.topology_terms.specs.Causes.{is_fit}
use Rattle.topology_terms.specs.Feature.{Class, Feature, env}
use Rattle.topology_terms.specs.Meaning.{Meaning, Laws, CutsRight}
use Rattle.topology_terms.specs.Entry.{Entry}
use Rattle.topology_terms.specs.Entry as entries
use Rattle.topology_terms.specs.Project.{Project, InForce}
use Rattle.topology_terms.specs.Sound.{IsSoundUnder}
use Rattle.topology_terms.specs.Settled.{IsSettledUnder, IsValidatedBy}
use Rattle.topology_terms.specs.Changes.{IsClassAdded, IsEdit, IsSelected}
use Rattle.sound_laws.proofs.Edits.{same_or_not, edit_sound}
use Rattle.sound_laws.proofs.Settling.{edit_settled, validated_by_cut}
use Rattle.validation_laws.proofs.Validating.{parts_kept_valid, parts_kept_sound, parts_kept_settled}
use Rattle.feature_store.specs.Keeps.{IsStore}
use Rattle.rule_core.specs.Kinds.{TakesKinds, NamesPartners}
use Rattle.topo_core.specs.Topologies.{IsErrorOf, AreLive, IsTopology}
use Rattle.topo_core.proofs.Rows.{fit_end}
use Rattle.topo_core.proofs.Whole.{valid}
use Rattle.topo_core.proofs.Fresh.{validated_errors}
use Rattle.grid_index.specs.declared.placed.Placed.{Placed}
use Rattle.validation.specs.Projects.{RuledFeatures, HasParts}
use Rattle.validation.specs.Placed.{ArePlaced}
use Rattle.validation.specs.Asked.{dirty_parts, IsAskedFor}
use Rattle.topo_core.specs.Steps.{IsAskedBy}

-- ---- what a validation reads of the project
pub parts_of : (p : Project) (r : RuledFeatures) (rules : List InForce) (F : List Feature) (ps : List Placed)
    → r ≡ record { in_force = rules; features = F; placed = ps }
    → rules ≡ p.rules → F ≡ p.features → HasParts p r p.dirt p.entries
parts_of p r rules F ps e q f = record {
  rules = sym (ap (λ (x : RuledFeatures). x.in_force) e ∙ q);
  features = sym (ap (λ (x : RuledFeatures). x.features) e ∙ f);
  dirt = refl;
  entries = refl;
}

-- and how much it asks about
pub asked_by : (w : Rectangle) (p : Project) (r : RuledFeatures) (ps : List Placed) (m n : ℕ) → HasParts p r p.dirt p.entries → r.placed ≡ ps
    → ArePlaced ps p.features → AreLive ps p.features
    → ((fs : List Feature) → IsThose (λ (f : Feature). IsSelected p w f.handle) r.features fs → IsAskedFor r (dirty_parts p.dirt w) fs m n)
    → IsAskedBy w p m n
asked_by w p r ps m n parts e placed live h = record {
  placed = ps;
  all = placed;
  live = live;
  steps = λ fs those.
      let x = h fs (subst (λ F. IsThose (λ (f : Feature). IsSelected p w f.handle) F fs) parts.features those) in
      record {
        about = x.about;
        asked = x.asked;
        steps = λ s. rw (← e, parts.rules) (x.steps s);
      };
}

-- ---- an edit
pub given_later : (m n a b : ℕ) (e : Entry) → m ≤ n → IsErrorOf m a b e → IsErrorOf n a b e
given_later m n a b e later x =
    let given = x.given in
    let partner = x.partner in
    record {
      from_1 = x.from_1;
      given = omega (arith, given, later);
      partner = omega (arith, partner, later);
      cells = x.cells;
      some =
          x.some;
    }

pub edit_keeps : (h : ℕ) (after : Option Feature) (old new : Project) → IsTopology old → IsEdit h after old new → old.next ≤ new.next
    → IsStore new.classes new.features new.next → IfSome after (λ f. IsRectangle (env f)) → IsTopology new
edit_keeps h after old new t i later s r = record {
  store = s;
  rules = rw i.rules t.rules;
  few = rw i.rules t.few;
  numbers = rw i.rules t.numbers;
  fit = rw (i.rules, i.classes) t.fit;
  apart = rw i.rules t.apart;
  order = rw i.entries t.order;
  made = record {
    envelopes = λ a f k. elim (same_or_not a h) [
      | inl e ↦ let l : after ≡ Some f = sym i.features.here ∙ (rw e at k) in rw l at r
      | inr e ↦ t.made.envelopes a f (sym (i.features.others a e) ∙ k)
    ];
    frames = λ r a b e k. t.made.frames r a b e (rw i.entries at k);
    bare = λ r a b e k w. t.made.bare r a b e (rw i.entries at k) w;
    ruled = λ r a b e k. rw i.rules (t.made.ruled r a b e (rw i.entries at k));
  };
  errors = λ r a b e k. given_later old.next new.next a b e later (t.errors r a b e (rw i.entries at k));
}

pub edit_sound_kept : (M : Meaning) → Laws M → TakesKinds M → (h : ℕ) (after : Option Feature) (old new : Project)
    → IsTopology old → IsTopology new → IsEdit h after old new → IsSoundUnder M old → IsSoundUnder M new
edit_sound_kept M L K h after old new t u i s = edit_sound M L h after old new (valid M K old t) (valid M K new u) i s

pub edit_settled_kept : (M : Meaning) → Laws M → TakesKinds M → (h : ℕ) (after : Option Feature) (old new : Project)
    → IsTopology old → IsTopology new → IsEdit h after old new → IsSettledUnder M old → IsSettledUnder M new
edit_settled_kept M L K h after old new t u i s = edit_settled M L h after old new (valid M K old t) (valid M K new u) t.store.ascending
    u.store.ascending i s

-- ---- a class more
fits_end : (cs : List Class) (d : Class) (rules : List InForce) → Every (λ (q : InForce). is_fit cs q.row ≡ true) rules
    → Every (λ (q : InForce). is_fit (cs ++ d ∷ []) q.row ≡ true) rules
fits_end cs d rules h = every_map (λ (q : InForce). is_fit cs q.row ≡ true) (λ (q : InForce). is_fit (cs ++ d ∷ []) q.row ≡ true)
    (λ q f. fit_end cs d q.row f) rules h

pub class_keeps : (name : List ℕ) (k : Kind) (old new : Project) → IsTopology old → IsClassAdded name k old new
    → IsStore new.classes new.features new.next → IsTopology new
class_keeps name k old new t i s = record {
  store = s;
  rules = rw i.rules t.rules;
  few = rw i.rules t.few;
  numbers = rw i.rules t.numbers;
  fit = rw (i.rules, i.classes) (fits_end old.classes (record { name = name; kind = k }) old.rules t.fit);
  apart = rw i.rules t.apart;
  order = rw i.entries t.order;
  made = record {
    envelopes = λ a f k. t.made.envelopes a f (rw i.features at k);
    frames = λ r a b e k. t.made.frames r a b e (rw i.entries at k);
    bare = λ r a b e k w. t.made.bare r a b e (rw i.entries at k) w;
    ruled = λ r a b e k. rw i.rules (t.made.ruled r a b e (rw i.entries at k));
  };
  errors = λ r a b e k. rw i.next (t.errors r a b e (rw i.entries at k));
}

pub class_sound : (M : Meaning) (name : List ℕ) (k : Kind) (old new : Project) → IsClassAdded name k old new → IsSoundUnder M old
    → IsSoundUnder M new
class_sound M name k old new i s = record {
  each = λ r row e a.
      let o = s.each r row (rw i.rules at e) a in
      record {
        points = λ q n b. rw (i.entries, i.features) (o.points q (λ m. n (rw i.dirt m)) b);
        whole = λ f k n. rw (i.entries, i.features) (o.whole f (rw i.features at k) (λ m. n (rw i.dirt m)));
        cells = λ b x k w. o.cells b x (rw i.entries at k) w;
        frames = λ b x k. rw (i.dirt, i.features) (o.frames b x (rw i.entries at k));
      };
}

pub class_settled : (M : Meaning) (name : List ℕ) (k : Kind) (old new : Project) → IsClassAdded name k old new → IsSettledUnder M old
    → IsSettledUnder M new
class_settled M name k old new i s = record {
  cut = λ r row e a f k n. rw (i.entries, i.features) (s.cut r row (rw i.rules at e) a f (rw i.features at k) (λ m. n (rw i.dirt m)));
  frames = λ r row e a b x k. rw (i.dirt, i.features) (s.frames r row (rw i.rules at e) a b x (rw i.entries at k));
}

-- ---- a validation
pub validated_keeps : (M : Meaning) → CutsRight M → TakesKinds M → NamesPartners M → (w : Rectangle) (old new : Project) → IsTopology old
    → IsValidatedBy M w old new → entries.IsAscending new.entries → IsTopology new
validated_keeps M C K N w old new t i order = record {
  store = rw (i.classes, i.features, i.next) t.store;
  rules = rw i.rules t.rules;
  few = rw i.rules t.few;
  numbers = rw i.rules t.numbers;
  fit = rw (i.rules, i.classes) t.fit;
  apart = rw i.rules t.apart;
  order = order;
  made = (parts_kept_valid M C w old new i (valid M K old t) t.store.ascending).made;
  errors = rw i.next (validated_errors M N w old new t (validated_by_cut M C w old new (valid M K old t) t.store.ascending i));
}

pub validated_sound_kept : (M : Meaning) → Laws M → CutsRight M → TakesKinds M → (w : Rectangle) (old new : Project) → IsTopology old
    → IsValidatedBy M w old new → IsSoundUnder M old → IsSoundUnder M new
validated_sound_kept M L C K w old new t i s = parts_kept_sound M L C w old new i (valid M K old t) t.store.ascending s

pub validated_settled_kept : (M : Meaning) → Laws M → CutsRight M → TakesKinds M → (w : Rectangle) (old new : Project) → IsTopology old
    → IsValidatedBy M w old new → IsSettledUnder M old → IsSettledUnder M new
validated_settled_kept M L C K w old new t i s = parts_kept_settled M L C w old new i (valid M K old t) t.store.ascending s
