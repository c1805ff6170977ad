-- Of the features of an index's handles those that meet the dirt are picked, as of all features.
use Rattle.std.proofs.Common.{◌≡◌, ◌↔◌, inl, inr, ℕ, ◌<◌, ◌+◌, Bool, List, [], ◌∷◌, ◌++◌, Option, Some, None, true, refl, sym, ◌∙◌, subst, arith, take, length, get_or, Contains}
use Rattle.std.specs.Prelude.{if◌then◌else◌, IsTrue}
use Rattle.std.specs.Option.{option_to_list}
use Rattle.plane_terms.specs.Lists.{SomeOf}
use Rattle.plane_terms.proofs.ListLemmas.{SomeOf-append_left, SomeOf-append_right, SomeOf-either, IsAmong}
use Rattle.plane_terms.specs.Point.{Point}
use Rattle.plane_terms.specs.Rectangle.{Rectangle, RectHolds, rects_meet}
use Rattle.plane_terms.specs.Dirt.{Covers, MeetsDirt}
use Rattle.topology_terms.specs.Feature.{Feature, feature_at, env, IsAscending}
use Rattle.sound_laws.proofs.FeatureLists.{handle_of}
use Rattle.sound_laws.proofs.Meetings.{meets_test}
use Rattle.validation_laws.specs.Parts.{live_of}
use Rattle.validation_laws.specs.Picked.{ArePicked}
use Rattle.validation_laws.proofs.Handles.{among}
use Rattle.validation_laws.proofs.Selecting.{picked_none, picked_more, some_feature, feature_some}
use Rattle.grid_index.specs.declared.placed.Placed.{Placed}
use Rattle.validation.specs.Placed.{placed_of, ArePlaced, HasNear}
use Rattle.validation.proofs.Nearby.{live_more}

-- ---- one handle after another
pub picked_joined : {X : Type 0} (P : X → Type 0) (number : X → ℕ) (xs ys : List X) (before mid out : List ℕ)
    → ArePicked P number xs before mid → ArePicked P number ys mid out → ArePicked P number (xs ++ ys) before out
picked_joined {X} P number xs ys before mid out h k a =
    let Q : X → Type 0 = λ (x : X). (number x ≡ a) × P x in (
      (λ c. elim ((k a).0 c) [
        | inl m ↦ elim ((h a).0 m) [ inl n ↦ inl n | inr n ↦ inr (SomeOf-append_left Q xs ys n) ]
        | inr m ↦ inr (SomeOf-append_right Q xs ys m)
      ]),
      (λ s. (k a).1 (elim s [
        | inl m ↦ inl ((h a).1 (inl m))
        | inr m ↦ elim (SomeOf-either Q xs ys m) [ inl n ↦ inl ((h a).1 (inr n)) | inr n ↦ inr n ]
      ])),
    )

pub picked_live : (P : Feature → Type 0) (F : List Feature) (ns : List ℕ) (i a : ℕ) (before out new : List ℕ) → i < length ns
    → a ≡ get_or ns i a → ArePicked P (λ (f : Feature). f.handle) (live_of F (take i ns)) before out
    → ArePicked P (λ (f : Feature). f.handle) (option_to_list (feature_at F a)) out new
    → ArePicked P (λ (f : Feature). f.handle) (live_of F (take (i + 1) ns)) before new
picked_live P F ns i a before out new l e h k =
    subst (λ xs. ArePicked P (λ (f : Feature). f.handle) xs before new) (sym (live_more F ns i a (feature_at F a) l e refl))
    (picked_joined P (λ (f : Feature). f.handle) (live_of F (take i ns)) (option_to_list (feature_at F a)) before out new h k)

pub picked_one : (P : Feature → Type 0) (o : Option Feature) (f : Feature) (t : Bool) (h : ℕ) (out new : List ℕ) → o ≡ Some f
    → (IsTrue t ↔ P f) → h ≡ f.handle → new ≡ out ++ (if t then h ∷ [] else [])
    → ArePicked P (λ (g : Feature). g.handle) (option_to_list o) out new
picked_one P o f t h out new e decides is grown =
    subst (λ o. ArePicked P (λ (g : Feature). g.handle) (option_to_list o) out new) (sym e)
    (picked_more P (λ (g : Feature). g.handle) (f ∷ []) 0 f out out new t h (omega arith) refl decides is
    (picked_none P (λ (g : Feature). g.handle) out) grown)

pub picked_nothing : (P : Feature → Type 0) (o : Option Feature) (out new : List ℕ) → o ≡ None → new ≡ out
    → ArePicked P (λ (g : Feature). g.handle) (option_to_list o) out new
picked_nothing P o out new e same = rw (e, same) (picked_none P (λ (g : Feature). g.handle) out)

-- ---- of all
one_some : (Q : Feature → Type 0) (o : Option Feature) (f : Feature) → o ≡ Some f → Q f → SomeOf Q (option_to_list o)
one_some Q o f e q = rw e (inl q)

some_one : (Q : Feature → Type 0) (o : Option Feature) → SomeOf Q (option_to_list o) → (f : Feature) × (o ≡ Some f) × Q f
some_one Q None s = absurd s
some_one Q (Some f) s = elim s [ inl q ↦ (f, refl, q) | inr k ↦ absurd k ]

live_some : (P : Feature → Type 0) (F : List Feature) (ns : List ℕ) (a : ℕ) (f : Feature) → feature_at F a ≡ Some f → P f → IsAmong a ns
    → SomeOf (λ (g : Feature). (g.handle ≡ a) × P g) (live_of F ns)
live_some P F [] a f e p m = absurd m
live_some P F (n ∷ ns) a f e p m =
    let Q : Feature → Type 0 = λ (g : Feature). (g.handle ≡ a) × P g in
    elim m [
      | inl k ↦ SomeOf-append_left Q (option_to_list (feature_at F n)) (live_of F ns) (one_some Q (feature_at F n) f
          (subst (λ h. feature_at F h ≡ Some f) k e) (handle_of F a f e, p))
      | inr k ↦ SomeOf-append_right Q (option_to_list (feature_at F n)) (live_of F ns) (live_some P F ns a f e p k)
    ]

some_live : (P : Feature → Type 0) (F : List Feature) (ns : List ℕ) (a : ℕ)
    → SomeOf (λ (g : Feature). (g.handle ≡ a) × P g) (live_of F ns) → SomeOf (λ (g : Feature). (g.handle ≡ a) × P g) F
some_live P F [] a s = absurd s
some_live P F (n ∷ ns) a s =
    let Q : Feature → Type 0 = λ (g : Feature). (g.handle ≡ a) × P g in
    elim (SomeOf-either Q (option_to_list (feature_at F n)) (live_of F ns) s) [
      | inl k ↦ let y = some_one Q (feature_at F n) k in feature_some P F a y.0
          (subst (λ h. feature_at F h ≡ Some y.0) (sym (handle_of F n y.0 y.1) ∙ y.2.0) y.1) y.2.1
      | inr k ↦ some_live P F ns a k
    ]

pub picked_near : (P : Feature → Type 0) (F : List Feature) (ns before out : List ℕ) → IsAscending F
    → ((h : ℕ) (f : Feature) → feature_at F h ≡ Some f → P f → Contains ns f.handle)
    → ArePicked P (λ (f : Feature). f.handle) (live_of F ns) before out → ArePicked P (λ (f : Feature). f.handle) F before out
picked_near P F ns before out u near h a = (
  (λ c. elim ((h a).0 c) [ inl m ↦ inl m | inr m ↦ inr (some_live P F ns a m) ]),
  (λ s. (h a).1 (elim s [
    | inl m ↦ inl m
    | inr m ↦ let y = some_feature P F a u m in inr (live_some P F ns a y.0 y.1 y.2
        (among a ns (subst (Contains ns) (handle_of F a y.0 y.1) (near a y.0 y.1 y.2))))
  ])),
)

-- ---- the handles that are given for the dirt are enough
pub covered_meets : (d : List Rectangle) (r : Rectangle) (p : Point) → Covers d p → RectHolds r p
    → SomeOf (λ (s : Rectangle). rects_meet s r ≡ true) d
covered_meets [] r p h k = absurd h
covered_meets (s ∷ d) r p h k = elim h [ inl t ↦ inl (meets_test s r (p, t, k)) | inr t ↦ inr (covered_meets d r p t k) ]

pub dirty_near : (ps : List Placed) (F : List Feature) (d : List Rectangle) (ns : List ℕ) → ArePlaced ps F → HasNear ns ps d
    → (h : ℕ) (f : Feature) → feature_at F h ≡ Some f → MeetsDirt d (env f) → Contains ns f.handle
dirty_near ps F d ns placed near h f e m = near (placed_of f) (placed h f e) (covered_meets d (env f) m.0 m.1 m.2)

pub near_once : (ps : List Placed) (d : List Rectangle) (ns ms : List ℕ) → HasNear ns ps d → ((a : ℕ) → Contains ms a ↔ Contains ns a)
    → HasNear ms ps d
near_once ps d ns ms near same q c s = (same q.handle).1 (near q c s)
