-- The edits of each plan can be done, one after another.
use Rattle.std.proofs.Common.{◌≡◌, ◌≢◌, ℕ, ◌+◌, ◌<◌, ◌≤◌, ◌==◌, Bool, true, false, not, List, [], ◌∷◌, length, map, Option, Some, None, arith, refl, sym, ap, ◌∙◌, inl, inr, if◌then◌else◌}
use Rattle.std.specs.Prelude.{is_none}
use Rattle.std.specs.Option.{option_map}
use Rattle.plane_terms.specs.Lists.{Every}
use Rattle.plane_terms.specs.Point.{Place}
use Rattle.plane_terms.specs.Shape.{Shape}
use Rattle.plane_terms.specs.declared.kind.Kind.{Kind}
use Rattle.plane_terms.specs.declared.kind.Kind.TheVariants as kind
use Rattle.topology_terms.specs.Causes.{first_of, when, same_kind, is_kind, change_cause}
use Rattle.topology_terms.specs.declared.cause.Cause.TheVariants.{NoClass, WrongKind, NoFeature, HandlesSpent}
use Rattle.topology_terms.specs.Changes.{reshaped, IsFeatureSet}
use Rattle.topology_terms.specs.Feature.{Feature, feature_at}
use Rattle.topology_terms.specs.Lookups.{kind_at, kind_of_class}
use Rattle.topology_terms.specs.Project.{Project}
use Rattle.sound_laws.proofs.Edits.{same_or_not}
use Rattle.fix_terms.specs.Plans.{IsPossible}
use Rattle.fix_terms.specs.declared.edit.Edit.TheVariants.{Put, Add}
use Rattle.fix_terms.specs.Explode.{line_of, exploded_by}
use Rattle.fix_terms.specs.Move.{moves, moved_shape, has_vertex}
use Rattle.fix_tools.proofs.After.{off}

own_kind : (k : Kind) → same_kind k k ≡ true
own_kind kind.Point = refl
own_kind kind.Line = refl
own_kind kind.Polygon = refl

-- ---- a feature comes
may_add : (k l : Option Kind) (j : Kind) (n : ℕ) → k ≡ Some j → l ≡ k → n < 4294967295
    → first_of (when (is_none l) NoClass ∷ when (not (is_kind l j)) WrongKind ∷ when (n == 4294967295) HandlesSpent ∷ []) ≡ None
may_add k l j n e f b =
    let apart : n ≢ 4294967295 = λ i. absurd (less n i b) in
    rw (f ∙ e, own_kind j, off n 4294967295 apart) refl
  where
    less : (n : ℕ) → n ≡ 4294967295 → n < 4294967295 → ⊥
    less n i b = omega (arith, i, b)

pub add_possible : (p : Project) (class t : ℕ) (s : Shape) → kind_of_class p.classes class ≡ Some s.kind → p.next + 1 ≤ 4294967295
    → IsPossible (Add class t s ∷ []) p
add_possible p class t s k n =
    (may_add (kind_of_class p.classes class) (kind_of_class p.classes class) s.kind p.next k refl (omega (arith, n)), λ q d. tt)

adds_possible : (f : Feature) (parts : List (List (List Place))) (p : Project) → kind_of_class p.classes f.class ≡ Some kind.Line
    → p.next + length parts ≤ 4294967295
    → IsPossible (map {A = List (List Place)} (λ part. Add f.class f.subtype (line_of part)) parts) p
adds_possible f [] p k n = tt
adds_possible f (x ∷ xs) p k n = (
  may_add (kind_of_class p.classes f.class) (kind_of_class p.classes f.class) kind.Line p.next k refl (omega (arith, n)),
  λ q d.
      let m = d.next in
      adds_possible f xs q (ap (λ cs. kind_of_class cs f.class) d.edit.classes ∙ k) (omega (arith, m, n)),
)

-- ---- a feature gets another shape
may_put : (F : List Feature) (h : ℕ) (f : Feature) (k : Kind) → feature_at F h ≡ Some f → f.shape.kind ≡ k → change_cause F h k ≡ None
may_put F h f k e s = by (feature_at F h) e
  where
    by : (o : Option Feature) → o ≡ Some f
        → first_of (when (is_none o) NoFeature ∷ when (not (is_kind (option_map (λ (x : Feature). x.shape.kind) o) k)) WrongKind ∷ []) ≡ None
    by None i = absurd cc
    by (Some g) i =
        let same : g ≡ f = cc in
        let kinds : g.shape.kind ≡ k = ap (λ (x : Feature). x.shape.kind) same ∙ s in
        rw (kinds, own_kind k) refl

pub put_possible : (p : Project) (h : ℕ) (f : Feature) (s : Shape) → feature_at p.features h ≡ Some f → f.shape.kind ≡ s.kind
    → IsPossible (Put h s ∷ []) p
put_possible p h f s e k = (may_put p.features h f s.kind e k, λ q d. tt)

exploded_possible : (f : Feature) (parts : List (List (List Place))) (p : Project) → feature_at p.features f.handle ≡ Some f
    → f.shape.kind ≡ kind.Line → kind_of_class p.classes f.class ≡ Some kind.Line → p.next + length parts ≤ 4294967296
    → IsPossible (exploded_by f parts) p
exploded_possible f [] p e k c n = tt
exploded_possible f (x ∷ xs) p e k c n = (
  may_put p.features f.handle f kind.Line e k,
  λ q d.
      let m = d.next in
      adds_possible f xs q (ap (λ cs. kind_of_class cs f.class) d.edit.classes ∙ c) (omega (arith, m, n)),
)

pub explode_possible : (p : Project) (f : Feature) → feature_at p.features f.handle ≡ Some f → f.shape.kind ≡ kind.Line
    → kind_of_class p.classes f.class ≡ Some kind.Line → p.next + length f.shape.parts ≤ 4294967296
    → IsPossible (exploded_by f f.shape.parts) p
explode_possible p f e k c n = exploded_possible f f.shape.parts p e k c n

-- ---- and each feature keeps its kind
there : (o : Option Feature) (k : Kind) → option_map (λ (x : Feature). x.shape.kind) o ≡ Some k
    → (f : Feature) × (o ≡ Some f) × (f.shape.kind ≡ k)
there None k e = absurd cc
there (Some f) k e = (f, refl, kinds e)
  where
    kinds : Some f.shape.kind ≡ Some k → f.shape.kind ≡ k
    kinds i = cc

put_kinds : (p q : Project) (h : ℕ) (s : Shape) (f : Feature) → feature_at p.features h ≡ Some f → f.shape.kind ≡ s.kind
    → IsFeatureSet h (reshaped (feature_at p.features h) s) p q → (k : ℕ) → kind_at q.features k ≡ kind_at p.features k
put_kinds p q h s f e same d k = elim (same_or_not k h) [
  | inl i ↦
      let here = d.edit.features.here ∙ ap (λ o. reshaped o s) e in
      ap (λ (j : ℕ). kind_at q.features j) i
      ∙ (ap (λ o. option_map (λ (x : Feature). x.shape.kind) o) here ∙ (ap (λ (j : Kind). Some j) (sym same)
      ∙ (ap (λ o. option_map (λ (x : Feature). x.shape.kind) o) (sym e) ∙ ap (λ (j : ℕ). kind_at p.features j) (sym i))))
  | inr n ↦ ap (λ o. option_map (λ (x : Feature). x.shape.kind) o) (d.edit.features.others k n)
]

abbrev HaveKinds : Project → List Feature → Type 0
HaveKinds p fs = Every (λ (f : Feature). kind_at p.features f.handle ≡ Some f.shape.kind) fs

still : (p q : Project) (fs : List Feature) → ((k : ℕ) → kind_at q.features k ≡ kind_at p.features k) → HaveKinds p fs → HaveKinds q fs
still p q [] e h = tt
still p q (f ∷ fs) e h = (e f.handle ∙ h.0, still p q fs e h.1)

pub moves_possible : (from to : Place) (fs : List Feature) (p : Project) → HaveKinds p fs → IsPossible (moves from to fs) p
moves_possible from to [] p h = tt
moves_possible from to (f ∷ fs) p h = by (has_vertex from f.shape) (λ q k. moves_possible from to fs q k)
  where
    by : (b : Bool) → ((q : Project) → HaveKinds q fs → IsPossible (moves from to fs) q)
        → IsPossible (if b then Put f.handle (moved_shape from to f.shape) ∷ moves from to fs else moves from to fs) p
    by true more =
        let g = there (feature_at p.features f.handle) f.shape.kind h.0 in (
          may_put p.features f.handle g.0 f.shape.kind g.1 g.2,
          λ q d. more q (still p q fs (put_kinds p q f.handle (moved_shape from to f.shape) g.0 g.1 g.2 d) h.1),
        )
    by false more = more p h.1

pub live_kinds : (p : Project) (fs : List Feature) → Every (λ (f : Feature). feature_at p.features f.handle ≡ Some f) fs → HaveKinds p fs
live_kinds p [] h = tt
live_kinds p (f ∷ fs) h = (ap (λ o. option_map (λ (x : Feature). x.shape.kind) o) h.0, live_kinds p fs h.1)
