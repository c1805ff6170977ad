-- What the store does, with the dirt, is an edit.
use Rattle.std.proofs.Common.{◌≡◌, ℕ, ◌+◌, ◌<◌, ◌≤◌, List, [], ◌∷◌, ◌++◌, Option, Some, None, true, Result, Ok, Err, refl, sym, ap, subst, ◌∙◌}
use Rattle.std.specs.Prelude.{is_some, MatchOption}
use Rattle.std.specs.Option.{option_map, option_to_list}
use Rattle.std.specs.Result.{IsErrAnd, IfErr}
use Rattle.plane_terms.specs.Rectangle.{Rectangle}
use Rattle.plane_terms.specs.Shape.{Shape, envelope_of}
use Rattle.plane_terms.specs.Dirt.{add_dirt, add_all}
use Rattle.plane_terms.specs.declared.kind.Kind.{Kind}
use Rattle.topology_terms.specs.Feature.{Class, Feature, feature_of, feature_at, env, IsSetAt}
use Rattle.topology_terms.specs.Changes.{add_envelope, IsFeatureAdded, IsFeatureSet}
use Rattle.topology_terms.specs.Causes.{Tells, add_cause}
use Rattle.topology_terms.specs.Entry.{Entry}
use Rattle.topology_terms.specs.Project.{Project, InForce, empty_project}
use Rattle.sound_laws.proofs.FeatureLists.{handle_of, set_end}
use Rattle.feature_store.specs.Stored.{Stored, IsSame}
use Rattle.feature_store.specs.Keeps.{IsOfClass, IsGiven}
use Rattle.feature_store.specs.Faults.{store_cause}
use Rattle.feature_store.specs.declared.fault.StoreFault.{StoreFault}
use Rattle.feature_store.specs.declared.fault.StoreFault.TheVariants as store_fault
use Rattle.feature_store.proofs.Keeping.{live_each}
use Rattle.dirty_area.proofs.Calls.{add_all-none, add_all-one}
use Rattle.topo_core.specs.Topologies.{IsTopology, project_of}
use Rattle.topo_core.specs.Faults.{change_fault, edit_cause}
use Rattle.topo_core.specs.declared.fault.ChangeFault.{ChangeFault}
use Rattle.topo_core.proofs.Whole.{none_given}

-- what a store keeps as its features change
pub record ChangesFeatures (next : ℕ) (F : List Feature) (s t : Stored) : Type 0 where
  pub classes : t.classes ≡ s.classes
  pub features : t.features ≡ F
  pub next_is : t.next ≡ next

-- s is the store before room was made, r with it, t after the change
pub added : (class subtype : ℕ) (shape : Shape) (h : ℕ) (s r t : Stored) (rules : List InForce) (d e : List Rectangle) (es : List Entry)
    → IsTopology (project_of s rules d es) → IsSame s r → h ≡ r.next → ChangesFeatures (r.next + 1)
    (r.features ++ feature_of h class subtype shape ∷ []) r t → e ≡ add_dirt d (envelope_of shape)
    → IsFeatureAdded class subtype shape h (project_of s rules d es) (project_of t rules e es)
added class subtype shape h s r t rules d e es top same number i dirt =
    let handle : h ≡ s.next = number ∙ same.next in
    let none : feature_at s.features h ≡ None = rw handle (none_given s.next s.features top.store.given) in
    let f : Feature = feature_of h class subtype shape in
    let set : IsSetAt h (Some f) s.features (s.features ++ f ∷ []) = set_end s.features f none in
    record {
      number = handle;
      absent = none;
      edit = record {
        features = rw (i.features, same.features) set;
        dirt = rw none dirt;
        classes = i.classes ∙ same.classes;
        rules =
            refl;
        entries = refl;
      };
      next = i.next_is ∙ ap (λ n. n + 1) same.next;
    }

pub exchanged : (h : ℕ) (after : Option Feature) (s r t : Stored) (rules : List InForce) (d e : List Rectangle) (es : List Entry)
    → IsSame s r → IsSetAt h after r.features t.features → t.classes ≡ r.classes → t.next ≡ r.next
    → e ≡ add_envelope (add_envelope d (feature_at r.features h)) after
    → IsFeatureSet h after (project_of s rules d es) (project_of t rules e es)
exchanged h after s r t rules d e es same set classes next dirt = record {
  edit = record {
    features = subst (λ F. IsSetAt h after F t.features) same.features set;
    dirt = subst (λ F. e ≡ add_envelope (add_envelope d (feature_at F h)) after) same.features dirt;
    classes = classes ∙ same.classes;
    rules = refl;
    entries = refl;
  };
  next = next ∙ same.next;
}

-- the envelope of a feature, where there is one; and those of two
envelope_added : (d : List Rectangle) (o : Option Feature) → add_all d (option_to_list (option_map env o)) ≡ add_envelope d o
envelope_added d None = add_all-none d
envelope_added d (Some f) = add_all-one d (env f)

pub envelopes_added : (d : List Rectangle) (a b : Option Feature) (x y : Option Rectangle) → x ≡ option_map env a → y ≡ option_map env b
    → add_all (add_all d (option_to_list x)) (option_to_list y) ≡ add_envelope (add_envelope d a) b
envelopes_added d a b x y p q = rw (p, q) (envelope_added (add_all d (option_to_list (option_map env a))) b
    ∙ ap (λ s. add_envelope s b) (envelope_added d a))

-- the store's cause is the topology's
pub told_add : (x : StoreFault) (cs : List Class) (next n : ℕ) (k : Kind) → Tells (store_cause x) (add_cause cs next n k)
    → Tells (edit_cause (change_fault x)) (add_cause cs next n k)
told_add store_fault.ClassTaken cs next n k i = tt
told_add store_fault.ClassesFull cs next n k i = tt
told_add store_fault.NoClass cs next n k i = i
told_add store_fault.WrongKind cs next n k i = i
told_add store_fault.HandlesSpent cs next n k i = i
told_add store_fault.NoMemory cs next n k i = i

pub live_given : (p : Project) → IsTopology p → (h : ℕ) (f : Feature) → feature_at p.features h ≡ Some f → (1 ≤ h) × (h < p.next)
live_given p t h f e =
    let o : IsGiven p.next f = (let l = live_each (IsGiven p.next) p.features h t.store.given in rw e at l) in
    rw (← handle_of p.features h f e) (o.from_1, o.before)

pub live_some : {A : Type 0} (o : Option A) (N : Type 0) (S : A → Type 0) → MatchOption o N S → is_some o ≡ true → (x : A) × S x
live_some None N S m e = cc
live_some (Some x) N S m e = (x, m)

pub other_shape : (p : Project) → IsTopology p → (h n s : ℕ) (f : Feature) (shape : Shape) → feature_at p.features h ≡ Some f → n ≡ f.class
    → shape.kind ≡ f.shape.kind → IsOfClass p.classes (feature_of h n s shape)
other_shape p t h n s f shape e same kind =
    let o : IsOfClass p.classes f = (let l = live_each (IsOfClass p.classes) p.features h t.store.kinds in rw e at l) in
    rw (same, kind) o

pub other_subtype : (p : Project) → IsTopology p → (h s : ℕ) (f : Feature) → feature_at p.features h ≡ Some f
    → IsOfClass p.classes (record f { subtype = s })
other_subtype p t h s f e = let o = live_each (IsOfClass p.classes) p.features h t.store.kinds in rw e at o

pub nothing : (s : Stored) (rules : List InForce) (d : List Rectangle) (es : List Entry) → s.classes ≡ [] → s.features ≡ [] → s.next ≡ 1
    → rules ≡ [] → d ≡ [] → es ≡ [] → project_of s rules d es ≡ empty_project
nothing s rules d es a b c k m n = rw (a, b, c, k, m, n) refl

-- an error that was told from another cause
pub told : {A : Type 0} (r : Result A ChangeFault) (x : ChangeFault) (P : ChangeFault → Type 0) → IsErrAnd r (λ e. e ≡ x) → P x → IfErr r P
told (Ok a) x P e p = tt
told (Err f) x P e p = subst P (sym e) p
