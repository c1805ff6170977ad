-- The parts of the dirt that lie in a window cover what is dirty of it.
use Rattle.std.proofs.Common.{◌≡◌, ◌↔◌, ◌⊎◌, inl, inr, ℕ, ◌<◌, ◌+◌, Bool, true, false, cond, subst, List, [], ◌∷◌, ◌++◌, refl, sym, ◌∙◌, ap, arith, take, length, get_or}
use Rattle.std.specs.Prelude.{IsTrue}
use Rattle.std.specs.List.{list_any, filter}
use Rattle.std.specs.List.Sorted.{IsPermutation}
use Rattle.std.proofs.lemmas.Bool.{false≢true}
use Rattle.std.proofs.lemmas.Int.{ints}
use Rattle.std.proofs.lemmas.List.{take_more}
use Rattle.std.proofs.lemmas.List.Elements.{All-from_recursion, recursion_from_All}
use Rattle.std.proofs.lemmas.List.Sorted.{All-permutation, IsPermutation-sym}
use Rattle.plane_terms.specs.Lists.{Every, SomeOf}
use Rattle.plane_terms.proofs.ListLemmas.{every_append}
use Rattle.plane_terms.specs.Point.{Point}
use Rattle.plane_terms.specs.Rectangle.{Rectangle, IsRectangle, RectHolds, RectsMeet, rects_meet}
use Rattle.plane_terms.specs.Dirt.{Covers, MeetsDirt, MeetsPart}
use Rattle.sound_laws.proofs.Meetings.{meets_test}
use Rattle.dirty_area.proofs.Calls.{meets_dirt}
use Rattle.validation_laws.specs.Picked.{ArePicked}
use Rattle.validation.proofs.Nearby.{some_moved}

-- ---- one rectangle more
covers_last : (A : List Rectangle) (m : Rectangle) (p : Point) → Covers (A ++ m ∷ []) p ↔ (Covers A p ⊎ RectHolds m p)
covers_last [] m p = ((λ h. elim h [ inl k ↦ inr k | inr k ↦ absurd k ]), (λ h. elim h [ inl k ↦ absurd k | inr k ↦ inl k ]))
covers_last (a ∷ A) m p =
    let rest = covers_last A m p in (
      (λ h. elim h [ inl k ↦ inl (inl k) | inr k ↦ elim (rest.0 k) [ inl l ↦ inl (inr l) | inr l ↦ inr l ] ]),
      (λ h. elim h [ inl k ↦ elim k [ inl l ↦ inl l | inr l ↦ inr (rest.1 (inl l)) ] | inr k ↦ inr (rest.1 (inr k)) ]),
    )

-- these rectangles cover what the window and the others have in common
abbrev pub CoverParts : List Rectangle → List Rectangle → Rectangle → Type 0
CoverParts ss rs w = (p : Point) → Covers ss p ↔ (Covers rs p × RectHolds w p)

pub front_more : {A : Type 0} (rs : List A) (i : ℕ) (r : A) → i < length rs → r ≡ get_or rs i r → take (i + 1) rs ≡ take i rs ++ r ∷ []
front_more rs i r l e = take_more rs i r l ∙ ap (λ y. take i rs ++ y ∷ []) (sym e)

-- ---- of those that meet the window
met_covers : (d : List Rectangle) (w : Rectangle) (p : Point) → RectHolds w p → Covers (filter (λ r. rects_meet r w) d) p ↔ Covers d p
met_covers [] w p h = ((λ k. k), (λ k. k))
met_covers (s ∷ d) w p h = pick (rects_meet s w) refl (filter (λ r. rects_meet r w) d) (met_covers d w p h)
  where
    pick : (b : Bool) → rects_meet s w ≡ b → (e : List Rectangle) → (Covers e p ↔ Covers d p) → Covers (cond b (s ∷ e) e) p ↔ Covers (s ∷ d) p
    pick true t e rest = (
      (λ k. elim k [ inl l ↦ inl l | inr l ↦ inr (rest.0 l) ]),
      (λ k. elim k [ inl l ↦ inl l | inr l ↦ inr (rest.1 l) ]),
    )
    pick false t e rest = (
      (λ k. inr (rest.0 k)),
      (λ k. elim k [ inl l ↦ absurd (false≢true (sym t ∙ meets_test s w (p, l, h))) | inr l ↦ rest.1 l ]),
    )

pub cover_met : (ss met d : List Rectangle) (w : Rectangle) → met ≡ filter (λ r. rects_meet r w) d → CoverParts ss met w → CoverParts ss d w
cover_met ss met d w e h p = (
  (λ k.
      let t = (h p).0 k in
      ((met_covers d w p t.1).0 (subst (λ l. Covers l p) e t.0), t.1)),
  (λ k. (h p).1 (subst (λ l. Covers l p) (sym e) ((met_covers d w p k.1).1 k.0), k.1)),
)

pub parts_more : (ss new : List Rectangle) (s : Rectangle) (rs : List Rectangle) (w r : Rectangle) (i : ℕ) → i < length rs
    → r ≡ get_or rs i r → ((p : Point) → RectHolds s p ↔ (RectHolds r p × RectHolds w p))
    → new ≡ ss ++ s ∷ [] → CoverParts ss (take i rs) w → CoverParts new (take (i + 1) rs) w
parts_more ss new s rs w r i l e part grown was p =
    let mine = covers_last ss s p in
    let theirs = covers_last (take i rs) r p in
    rw (grown, front_more rs i r l e) (
      (λ h. elim (mine.0 h) [
        | inl k ↦ let y = (was p).0 k in (theirs.1 (inl y.0), y.1)
        | inr k ↦ let y = (part p).0 k in (theirs.1 (inr y.0), y.1)
      ]),
      (λ h. mine.1 (elim (theirs.0 h.0) [ inl k ↦ inl ((was p).1 (k, h.1)) | inr k ↦ inr ((part p).1 (k, h.1)) ])),
    )

pub parts_same : (ss : List Rectangle) (rs : List Rectangle) (w r : Rectangle) (i : ℕ) → i < length rs → r ≡ get_or rs i r
    → ¬ (RectsMeet r w) → CoverParts ss (take i rs) w → CoverParts ss (take (i + 1) rs) w
parts_same ss rs w r i l e apart was p =
    let theirs = covers_last (take i rs) r p in
    rw (front_more rs i r l e) (
      (λ h. let y = (was p).0 h in (theirs.1 (inl y.0), y.1)),
      (λ h. elim (theirs.0 h.0) [ inl k ↦ (was p).1 (k, h.1) | inr k ↦ absurd (apart (p, k, h.1)) ]),
    )

pub grid_more : (ss new : List Rectangle) (s : Rectangle) → new ≡ ss ++ s ∷ [] → Every IsRectangle ss → IsRectangle s
    → Every IsRectangle new
grid_more ss new s grown h k = rw grown (every_append IsRectangle ss (s ∷ []) h (k, tt))

-- ---- in another order
pub every_moved : (P : Rectangle → Type 0) (xs ys : List Rectangle) → IsPermutation xs ys → Every P xs → Every P ys
every_moved P xs ys m h = recursion_from_All P ys (All-permutation P xs ys m (All-from_recursion P xs h))

pub grid_moved : (ss new : List Rectangle) → IsPermutation ss new → Every IsRectangle ss → Every IsRectangle new
grid_moved ss new m h = every_moved IsRectangle ss new m h

pub cover_moved : (ss new : List Rectangle) (rs : List Rectangle) (w : Rectangle) → IsPermutation ss new → CoverParts ss rs w
    → CoverParts new rs w
cover_moved ss new rs w m h p = (
  (λ k. (h p).0 (some_moved (λ r. RectHolds r p) new ss (IsPermutation-sym ss new m) k)),
  (λ k. some_moved (λ r. RectHolds r p) ss new m ((h p).1 k)),
)

-- ---- the question
meets_back : (r s : Rectangle) → rects_meet r s ≡ rects_meet s r
meets_back r s = grind (arith, ints)

any_back : (r : Rectangle) (ss : List Rectangle) → list_any (rects_meet r) ss ≡ list_any (λ s. rects_meet s r) ss
any_back r [] = refl
any_back r (s ∷ ss) = rw (meets_back r s, any_back r ss) refl

pub parts_met : (r : Rectangle) (ss : List Rectangle) (t : Bool) → Every IsRectangle ss → IsRectangle r
    → t ≡ list_any (rects_meet r) ss → IsTrue t ↔ MeetsDirt ss r
parts_met r ss t h i e = meets_dirt ss r t h i (e ∙ any_back r ss)

-- ---- what meets the parts
pub meets_parts : (parts d : List Rectangle) (w : Rectangle) → ((p : Point) → Covers parts p ↔ (Covers d p × RectHolds w p))
    → (r : Rectangle) → MeetsDirt parts r ↔ MeetsPart d w r
meets_parts parts d w h r = ((λ m. let y = (h m.0).0 m.1 in (m.0, y.0, y.1, m.2)), (λ m. (m.0, (h m.0).1 (m.1, m.2), m.3)))

some_as : {X : Type 0} (P Q : X → Type 0) (xs : List X) → ((x : X) → P x → Q x) → SomeOf P xs → SomeOf Q xs
some_as P Q [] e h = h
some_as P Q (x ∷ xs) e h = elim h [ inl k ↦ inl (e x k) | inr k ↦ inr (some_as P Q xs e k) ]

pub picked_as : {X : Type 0} (P Q : X → Type 0) (number : X → ℕ) (xs : List X) (before out : List ℕ) → ((x : X) → P x ↔ Q x)
    → ArePicked P number xs before out → ArePicked Q number xs before out
picked_as {X} P Q number xs before out e h a = (
  (λ k. elim ((h a).0 k) [
    | inl m ↦ inl m
    | inr m ↦ inr (some_as (λ (x : X). (number x ≡ a) × P x) (λ (x : X). (number x ≡ a) × Q x) xs
        (λ x y. (y.0, (e x).0 y.1)) m)
  ]),
  (λ k. (h a).1 (elim k [
    | inl m ↦ inl m
    | inr m ↦ inr (some_as (λ (x : X). (number x ≡ a) × Q x) (λ (x : X). (number x ≡ a) × P x) xs
        (λ x y. (y.0, (e x).1 y.1)) m)
  ])),
)
