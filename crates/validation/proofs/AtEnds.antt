-- A view of what is at the ends of a line.
use Rattle.std.proofs.Common.{◌≡◌, ◌≢◌, ◌↔◌, ◌∙◌, inl, inr, ℕ, ◌<◌, Bool, true, false, arith, refl, sym, List, [], ◌∷◌, ◌++◌, length, Option, Some, None, Contains}
use Rattle.std.specs.Prelude.{◌||◌, slice_get, is_some, IfSome}
use Rattle.std.specs.Option.{option_map_or}
use Rattle.std.specs.List.{filter, list_any}
use Rattle.std.specs.List.Sorted.{IsStrictlyIncreasing}
use Rattle.std.proofs.lemmas.Option.{get_or_from_slice_get}
use Rattle.std.proofs.lemmas.List.Elements.{Contains-append_left, Contains-push}
use Rattle.plane_terms.specs.Lists.{Every, SomeOf}
use Rattle.plane_terms.specs.Point.{Place, point_at}
use Rattle.plane_terms.specs.Rectangle.{Rectangle, RectHolds, rect_at, is_within, rects_meet}
use Rattle.plane_terms.proofs.ListLemmas.{every_map, contains_among}
use Rattle.topology_terms.specs.Feature.{Feature, feature_at, env, IsAscending}
use Rattle.topology_terms.specs.Together.{ends}
use Rattle.sound_laws.proofs.FeatureLists.{of_filter, ascending_filter, kept_at, none_below, handle_of as number_of}
use Rattle.sound_laws.proofs.Meetings.{envelope_proper, meets_from_test}
use Rattle.grid_index.specs.Near.{IsMet, AddsHandles, handle_of}
use Rattle.grid_index.specs.declared.placed.Placed.{Placed}
use Rattle.validation_laws.specs.Parts.{live_of}
use Rattle.validation_laws.specs.Views.{holds_any, HoldsEnd, open_of}
use Rattle.validation_laws.proofs.Handles.{among, among_or_not, rising}
use Rattle.validation_laws.proofs.Counting.{live_has, live_lacks, live_ascends}
use Rattle.rule_laws.proofs.Ends.{open_any, ends_inside, any_held_test, holds_own}
use Rattle.validation.specs.Ends.{AreAtEnds}
use Rattle.validation.specs.Placed.{placed_of, ArePlaced}

-- ---- the open ends of a line
-- a line that has not two has all open
pub open_all : (qs : List Place) (a b : Bool) → length qs ≢ 2 → open_of qs a b ≡ qs
open_all [] a b n = refl
open_all (p ∷ []) a b n = refl
open_all (p ∷ (q ∷ (r ∷ qs))) a b n = refl
open_all (p ∷ (q ∷ [])) a b n = absurd (n refl)

pub open_both : (qs : List Place) → open_of qs true true ≡ qs
open_both [] = refl
open_both (p ∷ []) = refl
open_both (p ∷ (q ∷ (r ∷ qs))) = refl
open_both (p ∷ (q ∷ [])) = refl

-- of two those that are at hand
pub open_two : (test : Place → Bool) (qs : List Place) (x y : Option Place) → length qs ≡ 2 → IfSome x (λ p. slice_get qs 0 ≡ Some p)
    → IfSome y (λ p. slice_get qs 1 ≡ Some p)
    → (option_map_or test x false || option_map_or test y false) ≡ list_any test (open_of qs (is_some x) (is_some y))
open_two test [] x y l h k = cc
open_two test (p ∷ []) x y l h k = cc
open_two test (p ∷ (q ∷ (r ∷ qs))) x y l h k = absurd (omega (arith, l))
open_two test (p ∷ (q ∷ [])) None None l h k = refl
open_two test (p ∷ (q ∷ [])) (Some s) None l h k =
    let a : p ≡ s = get_or_from_slice_get (p ∷ q ∷ []) 0 s s h in rw a refl
open_two test (p ∷ (q ∷ [])) None (Some t) l h k =
    let b : q ≡ t = get_or_from_slice_get (p ∷ q ∷ []) 1 t t k in rw b (last (test t))
  where
    last : (b : Bool) → b ≡ (b || false)
    last b = grind arith
open_two test (p ∷ (q ∷ [])) (Some s) (Some t) l h k =
    let a : p ≡ s = get_or_from_slice_get (p ∷ q ∷ []) 0 s s h in
    let b : q ≡ t = get_or_from_slice_get (p ∷ q ∷ []) 1 t t k in
    rw (a, b) (both (test s) (test t))
  where
    both : (a b : Bool) → (a || b) ≡ (a || (b || false))
    both a b = grind arith

pub or_some : (a b : Bool) → a ≡ true → a ≡ (a || b)
or_some a b e = rw e refl

pub or_none : (a b : Bool) → a ≡ false → b ≡ (a || b)
or_none a b e = rw e refl

-- what is at hand says which are open
pub open_same : (qs : List Place) (x y a b : Bool) → (length qs ≡ 2 → 0 < 2 → x ≡ a) → (length qs ≡ 2 → 1 < 2 → y ≡ b)
    → open_of qs x y ≡ open_of qs a b
open_same [] x y a b h k = refl
open_same (p ∷ []) x y a b h k = refl
open_same (p ∷ (q ∷ (r ∷ qs))) x y a b h k = refl
open_same (p ∷ (q ∷ [])) x y a b h k = rw (h refl (omega arith), k refl (omega arith)) refl

-- ---- the features of some handles
abbrev pub AreShown : Feature → List Feature → List Feature → Place → Type 0
AreShown f F V q = (h : ℕ) (g : Feature) → feature_at F h ≡ Some g → RectHolds (env g) (point_at q) → feature_at V h ≡ Some g

live_at : (F : List Feature) (ns : List ℕ) (h : ℕ) (g : Feature) → IsStrictlyIncreasing ns → feature_at (live_of F ns) h ≡ Some g
    → (feature_at F h ≡ Some g) × Contains ns h
live_at F ns h g v e = elim (among_or_not h ns) [
  | inl m ↦ (sym (live_has F ns h (rising ns v) m) ∙ e, contains_among ns h m)
  | inr d ↦ let x : None ≡ Some g = sym (live_lacks F ns h d) ∙ e in cc
]

live_here : (F : List Feature) (ns : List ℕ) (h : ℕ) (g : Feature) → IsStrictlyIncreasing ns → feature_at F h ≡ Some g → Contains ns h
    → feature_at (live_of F ns) h ≡ Some g
live_here F ns h g v e c = live_has F ns h (rising ns v) (among h ns c) ∙ e

-- the known handles, with those of what an index gives, and the subject's
pub put_together : (t : Rectangle → Bool) (ps : List Placed) (known found ns : List ℕ) (m : ℕ) → AddsHandles t (Contains ps) known found
    → ((h : ℕ) → Contains ns h ↔ Contains (found ++ m ∷ []) h)
    → ((h : ℕ) → IsMet handle_of t (Contains ps) h → Contains ns h) × Contains ns m × ((h : ℕ) → Contains known h → Contains ns h)
put_together t ps known found ns m adds same = (
  λ h k. (same h).1 (Contains-append_left found (m ∷ []) h ((adds h).1 (inr k))),
  (same m).1 (Contains-push found m),
  λ h c. (same h).1 (Contains-append_left found (m ∷ []) h ((adds h).1 (inl c))),
)

-- each of the places is one of them
pub each_some : {A B : Type 0} (H : A → B → Type 0) (qs : List A) → Every (λ q. (g : B) → H q g → SomeOf (λ r. H r g) qs) qs
each_some H [] = tt
each_some H (q ∷ qs) = (
  λ g h. inl h,
  every_map (λ r. (g : _) → H r g → SomeOf (λ s. H s g) qs) (λ r. (g : _) → H r g → SomeOf (λ s. H s g) (q ∷ qs)) (λ r k g h. inr (k g h)) qs
      (each_some H qs),
)

some_ends : (qs : List Place) → 0 < length qs → qs ≢ []
some_ends [] l = absurd (omega (arith, l))
some_ends (q ∷ qs) l = λ e. cc

-- the test whether the envelope holds an end of the line
abbrev pub at_end : Feature → Feature → Bool
at_end f g = holds_any (ends f) (env g)

module _ (F V : List Feature) (f : Feature) (u : IsAscending F) (live : feature_at F f.handle ≡ Some f) (l : 0 < length (ends f)) where
  own : at_end f f ≡ true
  own = (any_held_test (ends f) f).1 (holds_own f (some_ends (ends f) l))

  meets : (g : Feature) → at_end f g ≡ true → rects_meet (env f) (env g) ≡ true
  meets g t = ends_inside f.shape (env g) t

  -- of all features
  pub ends_filtered : V ≡ filter (at_end f) F → AreAtEnds F f [] (ends f) V
  ends_filtered e = record {
    forth = λ h g k.
        let y = of_filter (at_end f) F h g u (rw e at k) in
        (y.0, meets_from_test (env f) (env g) (envelope_proper f.shape) (envelope_proper g.shape) (meets g y.1));
    at_open =
        every_map (λ q. (g : Feature) → RectHolds (env g) (point_at q) → HoldsEnd f g) (AreShown f F V)
        (λ q k h g i m. rw e (kept_at (at_end f) F h g i ((any_held_test (ends f) g).1 (k g m)))) (ends f)
        (each_some (λ (q : Place) (g : Feature). RectHolds (env g) (point_at q)) (ends f));
    known = λ h g k m. let x : None ≡ Some g = sym (none_below h [] tt) ∙ k in cc;
    subject = rw e (kept_at (at_end f) F f.handle f live own);
    ascending = rw e (ascending_filter (at_end f) F u);
  }

  -- of those that an index gives for the open ends, and of known ones
  pub ends_among : (ns known : List ℕ) (ps : List Placed) (a b : Bool) → ArePlaced ps F → IsStrictlyIncreasing ns → IsStrictlyIncreasing known
      → ((h : ℕ) → IsMet handle_of (holds_any (open_of (ends f) a b)) (Contains ps) h → Contains ns h) → Contains ns f.handle
      → ((h : ℕ) → Contains known h → Contains ns h) → V ≡ filter (at_end f) (live_of F ns)
      → AreAtEnds F f (live_of F known) (open_of (ends f) a b) V
  ends_among ns known ps a b placed v w met mine more e = record {
    forth = λ h g k.
        let y = of_filter (at_end f) (live_of F ns) h g (live_ascends F ns (rising ns v)) (rw e at k) in
        ((live_at F ns h g v y.0).0, meets_from_test (env f) (env g) (envelope_proper f.shape) (envelope_proper g.shape) (meets g y.1));
    at_open =
        every_map (λ q. (g : Feature) → RectHolds (env g) (point_at q) → SomeOf (λ r. RectHolds (env g) (point_at r)) (open_of (ends f) a b))
        (AreShown f F V)
        (λ q k h g i m.
        let t = (any_held_test (open_of (ends f) a b) g).1 (k g m) in
        let c = met h (placed_of g, placed h g i, number_of F h g i, t) in
        shown h g i c (open_any (λ (r : Place). is_within (rect_at r) (env g)) (ends f) a b t))
        (open_of (ends f) a b) (each_some (λ (q : Place) (g : Feature). RectHolds (env g) (point_at q)) (open_of (ends f) a b));
    known = λ h g k m. let y = live_at F known h g w k in shown h g y.0 (more h y.1) ((any_held_test (ends f) g).1 m);
    subject = shown f.handle f live mine own;
    ascending = rw e (ascending_filter (at_end f) (live_of F ns) (live_ascends F ns (rising ns v)));
  }
    where
      shown : (h : ℕ) (g : Feature) → feature_at F h ≡ Some g → Contains ns h → at_end f g ≡ true → feature_at V h ≡ Some g
      shown h g i c t = rw e (kept_at (at_end f) (live_of F ns) h g (live_here F ns h g v i c) t)
