-- What every store keeps is kept as a class or a feature comes.
use Rattle.std.proofs.Common.{ℕ, zero, suc, ◌≡◌, ◌≢◌, ◌<◌, ◌≤◌, ◌+◌, ◌-◌, Bool, true, false, List, [], ◌∷◌, ◌++◌, length, refl, ◌∙◌, ap, arith, Option, Some, None, length-append, eqb}
use Rattle.std.proofs.lemmas.Bool.Decides.{nat_tests}
use Rattle.std.proofs.lemmas.Slice.Eq.{bytes_eq-Decides}
use Rattle.std.specs.Prelude.{bytes_eq, is_none, is_some, not, slice_get, if◌then◌else◌}
use Rattle.std.specs.Option.{option_map, IfSome}
use Rattle.plane_terms.specs.Lists.{Every, EveryPair}
use Rattle.plane_terms.specs.declared.kind.Kind.{Kind}
use Rattle.plane_terms.specs.declared.kind.Kind.TheVariants as kind
use Rattle.topology_terms.specs.Feature.{Class, Feature, by_handle, feature_at}
use Rattle.feature_store.specs.declared.slot.Slot.{Slot}
use Rattle.feature_store.specs.declared.slot.Slot.TheVariants.{Filled}
use Rattle.feature_store.specs.Slots.{handle_in, by_slot, filled, IsSlotted}
use Rattle.feature_store.proofs.Filling.{slot_keys, filled_last}
use Rattle.plane_terms.proofs.ListLemmas.{every_append, every_map}
use Rattle.sound_laws.proofs.Keyed.{ascending_last}
use Rattle.sound_laws.proofs.FeatureLists.{handles, handle_of}
use Rattle.sound_laws.proofs.FeatureLists.{live_each as each_live}
use Rattle.topology_terms.specs.Lookups.{class_at, number_from, kind_of_class}
use Rattle.topology_terms.specs.Causes.{when, first_of, same_kind, is_kind, add_cause}
use Rattle.topology_terms.specs.declared.cause.Cause.TheVariants as cause
use Rattle.feature_store.specs.Keeps.{IsOfClass, IsGiven, HasSimpleSides, AreUnlike, IsStore}

-- ---- the tests of kinds
pub kinds_same : (k l : Kind) → same_kind k l ≡ true → k ≡ l
kinds_same kind.Point kind.Point e = refl
kinds_same kind.Point kind.Line e = cc
kinds_same kind.Point kind.Polygon e = cc
kinds_same kind.Line kind.Point e = cc
kinds_same kind.Line kind.Line e = refl
kinds_same kind.Line kind.Polygon e = cc
kinds_same kind.Polygon kind.Point e = cc
kinds_same kind.Polygon kind.Line e = cc
kinds_same kind.Polygon kind.Polygon e = refl

-- ---- what may be added
pub none_of : (o : Option ℕ) → is_some o ≡ false → o ≡ None
none_of None e = refl
none_of (Some n) e = cc

-- what may be added fits its class, and has a handle
pub fits_class : (cs : List Class) (next n : ℕ) (k : Kind) → add_cause cs next n k ≡ None
    → (kind_of_class cs n ≡ Some k) × (next ≢ 4294967295)
fits_class cs next n k e = by (kind_of_class cs n) refl e
  where
    last : (t : Bool) → eqb next 4294967295 ≡ t → first_of (when t cause.HandlesSpent ∷ []) ≡ None → next ≢ 4294967295
    last true w h = cc
    last false w h = λ s. let t : eqb next 4294967295 ≡ true = grind (arith, nat_tests) in cc

    same : (l : Kind) (t : Bool) → same_kind l k ≡ t
        → first_of (when (not t) cause.WrongKind ∷ when (eqb next 4294967295) cause.HandlesSpent ∷ []) ≡ None
        → (Some l ≡ Some k) × (next ≢ 4294967295)
    same l true w h = (ap (λ m. Some m) (kinds_same l k w), last (eqb next 4294967295) refl h)
    same l false w h = cc

    by : (o : Option Kind) → kind_of_class cs n ≡ o
        → first_of (when (is_none o) cause.NoClass ∷ when (not (is_kind o k)) cause.WrongKind ∷ when (eqb next 4294967295)
        cause.HandlesSpent ∷ []) ≡ None → (o ≡ Some k) × (next ≢ 4294967295)
    by None w h = cc
    by (Some l) w h = same l (same_kind l k) refl h

-- ---- a class more
-- none of these classes has the name
unnamed : (n : ℕ) (cs : List Class) (name : List ℕ) (d : Class) → d.name ≡ name → number_from n cs name ≡ None
    → Every (λ (c : Class). AreUnlike c d) cs
unnamed n [] name d same e = tt
unnamed n (c ∷ cs) name d same e = by (bytes_eq c.name name) refl e (λ k. unnamed (n + 1) cs name d same k)
  where
    by : (t : Bool) → bytes_eq c.name name ≡ t → (if t then Some n else number_from (n + 1) cs name) ≡ None
        → (number_from (n + 1) cs name ≡ None → Every (λ (c : Class). AreUnlike c d) cs) → Every (λ (c : Class). AreUnlike c d) (c ∷ cs)
    by true w h rest = cc
    by false w h rest = ((λ k. let one : bytes_eq c.name name ≡ true = (bytes_eq-Decides c.name name).1 (k ∙ same) in cc), rest h)

pairs_end : (cs : List Class) (d : Class) → EveryPair AreUnlike cs → Every (λ (c : Class). AreUnlike c d) cs
    → EveryPair AreUnlike (cs ++ d ∷ [])
pairs_end [] d h p = (tt, tt)
pairs_end (c ∷ cs) d h p = (every_append (AreUnlike c) cs (d ∷ []) h.0 (p.0, tt), pairs_end cs d h.1 p.1)

get_end : (cs : List Class) (d c : Class) (i : ℕ) → slice_get cs i ≡ Some c → slice_get (cs ++ d ∷ []) i ≡ Some c
get_end [] d c i e = cc
get_end (b ∷ cs) d c zero e = e
get_end (b ∷ cs) d c (suc i) e = get_end cs d c i e

pub class_end : (cs : List Class) (d c : Class) (n : ℕ) → class_at cs n ≡ Some c → class_at (cs ++ d ∷ []) n ≡ Some c
class_end cs d c n e = by (eqb n 0) e
  where
    by : (t : Bool) → (if t then None else slice_get cs (n - 1)) ≡ Some c → (if t then None else slice_get (cs ++ d ∷ []) (n - 1)) ≡ Some c
    by true h = h
    by false h = get_end cs d c (n - 1) h

pub kind_end : (cs : List Class) (d : Class) (n : ℕ) (k : Kind) → kind_of_class cs n ≡ Some k → kind_of_class (cs ++ d ∷ []) n ≡ Some k
kind_end cs d n k e = by (class_at cs n) refl e
  where
    by : (o : Option Class) → class_at cs n ≡ o → option_map (λ (c : Class). c.kind) o ≡ Some k → kind_of_class (cs ++ d ∷ []) n ≡ Some k
    by None w h = cc
    by (Some c) w h = rw (class_end cs d c n w) h

kinds_end : (cs : List Class) (d : Class) (F : List Feature) → Every (IsOfClass cs) F → Every (IsOfClass (cs ++ d ∷ [])) F
kinds_end cs d F h = every_map (IsOfClass cs) (IsOfClass (cs ++ d ∷ [])) (λ f k. kind_end cs d f.class f.shape.kind k) F h

pub class_kept : (cs : List Class) (F : List Feature) (next : ℕ) (d : Class) (name : List ℕ) → d.name ≡ name → number_from 1 cs name ≡ None
    → length cs ≢ 64 → IsStore cs F next → IsStore (cs ++ d ∷ []) F next
class_kept cs F next d name same free some_left s = record {
  few = let l = s.few in omega (arith, length-append cs (d ∷ []));
  names = pairs_end cs d s.names (unnamed 1 cs name d same free);
  ascending = s.ascending;
  given = s.given;
  kinds = kinds_end cs d F s.kinds;
  simple = s.simple;
  from_1 = s.from_1;
}

-- ---- a feature more
pub below_next : (next : ℕ) (F : List Feature) → Every (IsGiven next) F → Every (λ (f : Feature). f.handle < next) F
below_next next F h = every_map (IsGiven next) (λ (f : Feature). f.handle < next) (λ f k. k.before) F h

pub given_later : (next later : ℕ) (F : List Feature) → next ≤ later → Every (IsGiven next) F → Every (IsGiven later) F
given_later next later F upto h = every_map (IsGiven next) (IsGiven later) (λ f k. record {
  from_1 = k.from_1;
  before = let b = k.before
      in omega arith;
}) F h

pub feature_kept : (cs : List Class) (F : List Feature) (next : ℕ) (f : Feature) → f.handle ≡ next → IsOfClass cs f → HasSimpleSides f
    → IsStore cs F next → IsStore cs (F ++ f ∷ []) (next + 1)
feature_kept cs F next f same of_class simple s =
    let first = s.from_1 in
    record {
      few = s.few;
      names = s.names;
      ascending = ascending_last by_handle handles F f s.ascending (rw same (below_next next F s.given));
      given = every_append (IsGiven (next + 1)) F (f ∷ []) (given_later next (next + 1) F (omega arith) s.given)
          (record { from_1 = omega arith; before = omega arith }, tt);
      kinds = every_append (IsOfClass cs) F (f ∷ []) s.kinds (of_class, tt);
      simple = every_append HasSimpleSides F (f ∷ []) s.simple (simple, tt);
      from_1 = omega arith;
    }

-- ---- a slot more, and a later handle
pub slots_later : (S : List Slot) (next later count : ℕ) → next ≤ later → IsSlotted S next count → IsSlotted S later count
slots_later S next later count upto s = record {
  ascending = s.ascending;
  below = every_map (λ (t : Slot). handle_in t < next) (λ (t : Slot). handle_in t < later) (λ t l. omega arith) S s.below;
  live = s.live;
}

pub store_later : (cs : List Class) (F : List Feature) (next later : ℕ) → next ≤ later → IsStore cs F next → IsStore cs F later
store_later cs F next later upto s = let first = s.from_1 in record {
  few = s.few;
  names = s.names;
  ascending = s.ascending;
  given = given_later next later F upto s.given;
  kinds = s.kinds;
  simple = s.simple;
  from_1 = omega arith;
}

slots_end : (S : List Slot) (next count : ℕ) (f : Feature) → f.handle ≡ next → IsSlotted S next count
    → IsSlotted (S ++ Filled f ∷ []) (next + 1) (count + 1)
slots_end S next count f same s =
    let l = slots_later S next (next + 1) count (omega arith) s in
    record {
      ascending = ascending_last by_slot slot_keys S (Filled f) s.ascending (rw same s.below);
      below = every_append (λ (t : Slot). handle_in t < next + 1) S (Filled f ∷ []) l.below (omega arith, tt);
      live = let n = s.live in let e = ap length (filled_last S f) in omega (arith, length-append (filled S) (f ∷ []));
    }

pub slot_kept : (cs : List Class) (S : List Slot) (next count : ℕ) (f : Feature) → f.handle ≡ next → IsOfClass cs f → HasSimpleSides f
    → IsStore cs (filled S) next → IsSlotted S next count
    → IsStore cs (filled (S ++ Filled f ∷ [])) (next + 1) × IsSlotted (S ++ Filled f ∷ []) (next + 1) (count + 1)
slot_kept cs S next count f same of_class simple s t = (
  rw filled_last (feature_kept cs (filled S) next f same of_class simple s),
  slots_end S next count f same t,
)

-- ---- a live feature
pub live_own : (F : List Feature) (h : ℕ) → IfSome (feature_at F h) (λ (f : Feature). f.handle ≡ h)
live_own F h = by (feature_at F h) refl
  where
    by : (o : Option Feature) → feature_at F h ≡ o → IfSome o (λ (f : Feature). f.handle ≡ h)
    by None e = tt
    by (Some f) e = handle_of F h f e

pub live_each : (P : Feature → Type 0) (F : List Feature) (h : ℕ) → Every P F → IfSome (feature_at F h) P
live_each P F h all = by (feature_at F h) refl
  where
    by : (o : Option Feature) → feature_at F h ≡ o → IfSome o P
    by None e = tt
    by (Some f) e = each_live P F h f all e

pub given_own : (h next : ℕ) (o : Option Feature) → 1 ≤ h → h < next → IfSome o (λ (f : Feature). f.handle ≡ h) → IfSome o (IsGiven next)
given_own h next None first l own = tt
given_own h next (Some f) first l own = record { from_1 = omega arith; before = omega arith }
