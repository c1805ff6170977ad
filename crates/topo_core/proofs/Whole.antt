-- What every topology keeps: it is ordered, its rules fit, and it is a project by any meaning that asks for kinds alone.
use Rattle.std.proofs.Common.{◌≡◌, ℕ, true, List, Option, Some, None, sym, ◌∙◌, ap, arith}
use Rattle.std.specs.Option.{IfSome}
use Rattle.plane_terms.specs.Lists.{Every}
use Rattle.plane_terms.proofs.ListLemmas.{every_map}
use Rattle.plane_terms.specs.declared.kind.Kind.{Kind}
use Rattle.topology_terms.specs.Feature.{Class, Feature, by_handle, feature_at}
use Rattle.rule_words.specs.Table.{origin_of, dest_of}
use Rattle.topology_terms.specs.Broken.{Row, Fits}
use Rattle.topology_terms.specs.Meaning.{Meaning}
use Rattle.topology_terms.specs.Entry.{entry_at}
use Rattle.topology_terms.specs.Lookups.{kind_of_class}
use Rattle.topology_terms.specs.Sound.{IsSoundUnder}
use Rattle.topology_terms.specs.Settled.{IsSettledUnder}
use Rattle.topology_terms.specs.Project.{Project, InForce, IsProject, IsOrdered, rule_at, empty_project}
use Rattle.topology_terms.specs.Causes.{is_fit}
use Rattle.sound_laws.proofs.Keyed.{none_lacks, lacks_before}
use Rattle.sound_laws.proofs.FeatureLists.{handles}
use Rattle.sound_laws.proofs.RuleLists.{rule_each}
use Rattle.feature_store.specs.Keeps.{IsOfClass, IsGiven, HasSimpleSides, IsStore}
use Rattle.feature_store.proofs.Keeping.{live_each, below_next}
use Rattle.rule_core.specs.Kinds.{HasKinds, TakesKinds}
use Rattle.topo_core.specs.Topologies.{IsTopology}
use Rattle.topo_core.proofs.Rows.{fits_kinds}

pub ordered : (p : Project) → IsTopology p → IsOrdered p
ordered p t = record { rules = t.rules; features = t.store.ascending; next = below_next p.next p.features t.store.given; entries = t.order }

-- no feature has the next handle
pub none_given : (h : ℕ) (F : List Feature) → Every (IsGiven h) F → feature_at F h ≡ None
unfolding feature_at
none_given h F g = none_lacks by_handle handles h F (lacks_before by_handle handles h F (below_next h F g))

kind_agrees : (cs : List Class) (f : Feature) (n : ℕ) (k : Kind) → IsOfClass cs f → f.class ≡ n → kind_of_class cs n ≡ Some k
    → f.shape.kind ≡ k
kind_agrees cs f n k o e h =
    let both : Some f.shape.kind ≡ Some k = sym o ∙ (ap (kind_of_class cs) e ∙ h) in
    cc

live_class : (cs : List Class) (F : List Feature) (h : ℕ) (f : Feature) → Every (IsOfClass cs) F → feature_at F h ≡ Some f → IsOfClass cs f
live_class cs F h f all e = let o = live_each (IsOfClass cs) F h all in rw e at o

dest_fits : (cs : List Class) (f : Feature) (n : ℕ) (o : Option Kind) → IsOfClass cs f → f.class ≡ n
    → IfSome o (λ k. kind_of_class cs n ≡ Some k) → IfSome o (λ k. f.shape.kind ≡ k)
dest_fits cs f n None c e h = tt
dest_fits cs f n (Some k) c e h = kind_agrees cs f n k c e h

live_simple : (F : List Feature) (h : ℕ) (f : Feature) → Every HasSimpleSides F → feature_at F h ≡ Some f → HasSimpleSides f
live_simple F h f all e = let o = live_each HasSimpleSides F h all in rw e at o

row_fits : (cs : List Class) (F : List Feature) (next : ℕ) (row : Row) → IsStore cs F next → HasKinds cs row → Fits row F
row_fits cs F next row s h = record {
  ascending = s.ascending;
  origin = λ a f o. kind_agrees cs f row.origin.class (origin_of row.kind) (live_class cs F a f s.kinds o.live) o.on_side.class h.origin;
  dest = λ a f o. dest_fits cs f row.dest.class (dest_of row.kind) (live_class cs F a f s.kinds o.live) o.on_side.class h.dest;
  proper = λ a f e. (live_simple F a f s.simple e).proper;
  simple = λ a f e. (live_simple F a f s.simple e).polygon;
  boundary = λ a f e. (live_simple F a f s.simple e).boundary;
}

pub kinds : (p : Project) → IsTopology p → Every (λ (q : InForce). HasKinds p.classes q.row) p.rules
kinds p t = every_map (λ (q : InForce). is_fit p.classes q.row ≡ true) (λ (q : InForce). HasKinds p.classes q.row)
    (λ q f. fits_kinds p.classes q.row f) p.rules t.fit

pub fitting : (M : Meaning) → TakesKinds M → (p : Project) → IsTopology p → (n : ℕ) (row : Row) → rule_at p.rules n ≡ Some row
    → M.Fits row p.features
fitting M K p t n row e =
    K.fits row p.features (row_fits p.classes p.features p.next row t.store (rule_each (HasKinds p.classes) p.rules n row (kinds p t) e))

pub row_fitting : (M : Meaning) → TakesKinds M → (p : Project) → IsTopology p → (row : Row) → HasKinds p.classes row → M.Fits row p.features
row_fitting M K p t row h = K.fits row p.features (row_fits p.classes p.features p.next row t.store h)

pub valid : (M : Meaning) → TakesKinds M → (p : Project) → IsTopology p → IsProject M p
valid M K p t = record { fits = fitting M K p t; made = t.made }

-- ---- nothing
pub empty_topology : IsTopology empty_project
unfolding feature_at rule_at entry_at
empty_topology = record {
  store = record { few = omega arith; names = tt; ascending = tt; given = tt; kinds = tt; simple = tt; from_1 = omega arith };
  rules = tt;
  few = omega arith;
  numbers = tt;
  fit = tt;
  apart = tt;
  order = tt;
  made = record {
    envelopes = λ a f e. absurd cc;
    frames = λ r a b e k. absurd cc;
    bare = λ r a b e k w. absurd cc;
    ruled =
        λ r a b e k. absurd cc;
  };
  errors = λ r a b e k. absurd cc;
}

pub empty_sound : (M : Meaning) → IsSoundUnder M empty_project
unfolding rule_at
empty_sound M = record { each = λ r row e a. absurd cc }

pub empty_settled : (M : Meaning) → IsSettledUnder M empty_project
unfolding rule_at
empty_settled M = record { cut = λ r row e a f k n. absurd cc; frames = λ r row e a. absurd cc }
