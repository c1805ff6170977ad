-- The features whose handles an index gives for rectangles, and which of them meet one.
use Rattle.std.proofs.Common.{◌≡◌, ◌↔◌, inl, inr, ℕ, ◌<◌, ◌+◌, Bool, true, false, List, [], ◌∷◌, ◌++◌, Option, Some, None, cond, refl, sym, ◌∙◌, ap, subst, arith, take, length, get_or, Contains}
use Rattle.std.specs.Prelude.{IsSomeAnd, IfSome}
use Rattle.std.specs.Option.{option_to_list}
use Rattle.std.specs.List.{filter}
use Rattle.std.specs.List.Sorted.{IsPermutation, IsStrictlyIncreasing}
use Rattle.std.proofs.lemmas.Bool.{cases_Bool}
use Rattle.std.proofs.lemmas.Int.{ints}
use Rattle.std.proofs.lemmas.List.{take_more, append-nil}
use Rattle.std.proofs.lemmas.List.Elements.{recursion_from_All, filter-append, Contains-append_left, Contains-append_right}
use Rattle.std.proofs.lemmas.List.Sorted.{Contains-permutation}
use Rattle.std.proofs.lemmas.Grind.{flat_map-append}
use Rattle.plane_terms.specs.Lists.{Every, SomeOf, IsThose, how_many}
use Rattle.plane_terms.proofs.ListLemmas.{SomeOf-either, every_append, every_map, every_filter, how_many_joined}
use Rattle.plane_terms.specs.Rectangle.{Rectangle, IsWithin, rects_meet}
use Rattle.topology_terms.specs.Feature.{Feature, feature_at, env, IsAscending}
use Rattle.sound_laws.proofs.FeatureLists.{each_live, handle_of}
use Rattle.sound_laws.proofs.Planes.{within_trans}
use Rattle.validation_laws.specs.Parts.{live_of}
use Rattle.validation_laws.proofs.Handles.{rising}
use Rattle.validation_laws.proofs.Counting.{live_those}
use Rattle.grid_plane.specs.Rectangles.{IsJoin}
use Rattle.dirty_area.proofs.Nearby.{some_place, place_some}
use Rattle.grid_index.specs.Near.{IsMet, handle_of as number_of}
use Rattle.grid_index.specs.declared.placed.Placed.{Placed}
use Rattle.validation.specs.Placed.{placed_of, ArePlaced, HasNear}
use Rattle.validation.proofs.Elements.{all_before}

-- ---- in another order
pub some_moved : {X : Type 0} (P : X → Type 0) (xs ys : List X) → IsPermutation xs ys → SomeOf P xs → SomeOf P ys
some_moved P xs ys m h =
    let y = some_place P xs h in
    let c = Contains-permutation xs ys y.0 m y.1 in
    place_some P ys y.0 c.0 c.1 c.2 y.2

-- ---- what an index gives
-- the handles are those of the placed rectangles that pass the test
abbrev pub AreMet : List ℕ → (Rectangle → Bool) → List Placed → Type 0
AreMet ns t ps = (a : ℕ) → Contains ns a ↔ IsMet number_of t (Contains ps) a

-- or meet r
abbrev pub AreNear : List ℕ → Rectangle → List Placed → Type 0
AreNear ns r ps = AreMet ns (rects_meet r) ps

given : (ns : List ℕ) (t : Rectangle → Bool) (ps : List Placed) (q : Placed) → AreMet ns t ps → Contains ps q → t q.rect ≡ true
    → Contains ns q.handle
given ns t ps q near c m = (near q.handle).1 (q, c, refl, m)

-- one rectangle more
pub near_more : (ps : List Placed) (rs : List Rectangle) (i : ℕ) (r : Rectangle) (out v new : List ℕ) → i < length rs → r ≡ get_or rs i r
    → HasNear out ps (take i rs) → AreNear v r ps → new ≡ out ++ v → HasNear new ps (take (i + 1) rs)
near_more ps rs i r out v new l e was near grown q c m =
    let more : take (i + 1) rs ≡ take i rs ++ r ∷ [] = take_more rs i r l ∙ ap (λ y. take i rs ++ y ∷ []) (sym e) in
    let P : Rectangle → Type 0 = λ (s : Rectangle). rects_meet s q.rect ≡ true in
    rw grown (elim (SomeOf-either P (take i rs) (r ∷ []) (subst (SomeOf P) more m)) [
      | inl k ↦ Contains-append_left out v q.handle (was q c k)
      | inr k ↦ elim k [ inl t ↦ Contains-append_right out v q.handle (given v (rects_meet r) ps q near c t) | inr t ↦ absurd t ]
    ])

-- ---- of the rectangle that holds them all
wider : (r j e : Rectangle) → IsWithin r j → rects_meet r e ≡ true → rects_meet j e ≡ true
wider r j e w m = grind (arith, ints)

wider_some : (rs : List Rectangle) (j e : Rectangle) → Every (λ (r : Rectangle). IsWithin r j) rs
    → SomeOf (λ (r : Rectangle). rects_meet r e ≡ true) rs → rects_meet j e ≡ true
wider_some [] j e all m = absurd m
wider_some (r ∷ rs) j e all m = elim m [ inl k ↦ wider r j e all.0 k | inr k ↦ wider_some rs j e all.1 k ]

pub near_joined : (ps : List Placed) (rs : List Rectangle) (j : Rectangle) (ns : List ℕ) → Every (λ (r : Rectangle). IsWithin r j) rs
    → AreNear ns j ps → HasNear ns ps rs
near_joined ps rs j ns all near q c m = given ns (rects_meet j) ps q near c (wider_some rs j q.rect all m)

pub near_none : (ps : List Placed) (rs : List Rectangle) (ns : List ℕ) → rs ≡ [] → HasNear ns ps rs
near_none ps rs ns e q c m =
    let none = subst (SomeOf (λ (r : Rectangle). rects_meet r q.rect ≡ true)) e m in
    absurd none

pub joined_more : (rs : List Rectangle) (i : ℕ) (r j k : Rectangle) → i < length rs → r ≡ get_or rs i r → IsJoin k j r
    → Every (λ (s : Rectangle). IsWithin s j) (take i rs) → Every (λ (s : Rectangle). IsWithin s k) (take (i + 1) rs)
joined_more rs i r j k l e join all =
    let more : take (i + 1) rs ≡ take i rs ++ r ∷ [] = take_more rs i r l ∙ ap (λ y. take i rs ++ y ∷ []) (sym e) in
    let P : Rectangle → Type 0 = λ (s : Rectangle). IsWithin s k in
    subst (Every P) (sym more) (every_append P (take i rs) (r ∷ [])
    (every_map (λ (s : Rectangle). IsWithin s j) P (λ s w. within_trans s j k w join.first) (take i rs) all) (join.second, tt))

-- ---- a view
passed_over : (t : Bool) (x : Feature) (xs : List Feature) → t ≡ false → cond t (x ∷ xs) xs ≡ xs
passed_over t x xs e = rw e refl

-- a filter that passes none but those is a filter of those
those_kept : (Q : Feature → Type 0) (test : Feature → Bool) (xs V : List Feature) → Every (λ (f : Feature). test f ≡ true → Q f) xs
    → IsThose Q xs V → filter test V ≡ filter test xs
those_kept Q test [] V u h = ap (filter test) h
those_kept Q test (x ∷ xs) V u h = elim h [
  | inl k ↦ ap (filter test) k.1.1 ∙ ap (λ l. cond (test x) (x ∷ l) l) (those_kept Q test xs k.1.0 u.1 k.1.2)
  | inr k ↦ those_kept Q test xs V u.1 k.1 ∙ sym (passed_over (test x) x (filter test xs)
      (elim (cases_Bool (test x)) [ inl t ↦ absurd (k.0 (u.0 t)) | inr t ↦ t ]))
]

pub view_about : (F V : List Feature) (t : Rectangle → Bool) (ps : List Placed) (ns : List ℕ) → IsAscending F → ArePlaced ps F
    → IsStrictlyIncreasing ns → AreMet ns t ps → V ≡ filter (λ (g : Feature). t (env g)) (live_of F ns)
    → V ≡ filter (λ (g : Feature). t (env g)) F
view_about F V t ps ns u placed v near is =
    let test : Feature → Bool = λ (g : Feature). t (env g) in
    let Q : Feature → Type 0 = λ (g : Feature). Contains ns g.handle in
    let those : IsThose Q F (live_of F ns) = live_those (λ (a : ℕ). Contains ns a) F ns u (rising ns v) (λ a. ((λ h. h), (λ h. h))) in
    let found : Every (λ (g : Feature). test g ≡ true → Q g) F =
    each_live (λ (g : Feature). test g ≡ true → Q g) F u (λ h g e k. given ns t ps (placed_of g) near (placed h g e) k) in
    is ∙ those_kept Q test F (live_of F ns) found those

pub one_near : (test : Feature → Bool) (o : Option Feature) (f : Feature) → o ≡ Some f → test f ≡ true
    → filter test (option_to_list o) ≡ f ∷ []
one_near test o f e t = rw (e, t) refl

pub one_far : (test : Feature → Bool) (o : Option Feature) (f : Feature) → o ≡ Some f → test f ≡ false
    → filter test (option_to_list o) ≡ []
one_far test o f e t = rw (e, t) refl

pub none_there : (test : Feature → Bool) (o : Option Feature) → o ≡ None → filter test (option_to_list o) ≡ []
none_there test o e = rw e refl

-- ---- put together one handle after another
pub live_more : (F : List Feature) (ns : List ℕ) (i a : ℕ) (o : Option Feature) → i < length ns → a ≡ get_or ns i a → feature_at F a ≡ o
    → live_of F (take (i + 1) ns) ≡ live_of F (take i ns) ++ option_to_list o
live_more F ns i a o l e k =
    let one : ℕ → List Feature = λ n. option_to_list (feature_at F n) in
    let more : take (i + 1) ns ≡ take i ns ++ a ∷ [] = take_more ns i a l ∙ ap (λ y. take i ns ++ y ∷ []) (sym e) in
    rw (more, flat_map-append one (take i ns) (a ∷ []), k) (ap (λ l. live_of F (take i ns) ++ l) (append-nil (option_to_list o)))

-- how many pass, one handle more
pub one_counts : (test : Feature → Bool) (o : Option Feature) → IsSomeAnd o (λ g. test g ≡ true) → 1 ≡ how_many test (option_to_list o)
one_counts test None h = absurd h
one_counts test (Some f) h = rw h refl

pub none_counts : (test : Feature → Bool) (o : Option Feature) → IfSome o (λ g. test g ≡ false) → 0 ≡ how_many test (option_to_list o)
none_counts test None h = refl
none_counts test (Some f) h = rw h refl

pub counted_more : (test : Feature → Bool) (F : List Feature) (ns : List ℕ) (i a n k new : ℕ) → i < length ns → a ≡ get_or ns i a
    → n ≡ how_many test (live_of F (take i ns)) → k ≡ how_many test (option_to_list (feature_at F a)) → new ≡ n + k
    → new ≡ how_many test (live_of F (take (i + 1) ns))
counted_more test F ns i a n k new l e before one grown =
    let sum = how_many_joined test (live_of F (take i ns)) (option_to_list (feature_at F a)) in
    rw (live_more F ns i a (feature_at F a) l e refl) (omega (arith, sum, before, one, grown))

-- those that pass, one handle more
pub seen_more : (test : Feature → Bool) (F V new : List Feature) (ns : List ℕ) (i a : ℕ) (more : List Feature) → i < length ns
    → a ≡ get_or ns i a → V ≡ filter test (live_of F (take i ns)) → filter test (option_to_list (feature_at F a)) ≡ more
    → new ≡ V ++ more → new ≡ filter test (live_of F (take (i + 1) ns))
seen_more test F V new ns i a more l e is last grown =
    grown ∙ (ap (λ xs. xs ++ more) is ∙ (ap (λ xs. filter test (live_of F (take i ns)) ++ xs) (sym last)
    ∙ sym (ap (filter test) (live_more F ns i a (feature_at F a) l e refl)
    ∙ filter-append test (live_of F (take i ns)) (option_to_list (feature_at F a)))))

one_below : (o : Option Feature) (rest : List Feature) (n x : ℕ) → ((f : Feature) → o ≡ Some f → f.handle ≡ n) → n < x
    → Every (λ (g : Feature). g.handle < x) rest → Every (λ (g : Feature). g.handle < x) (option_to_list o ++ rest)
one_below None rest n x own l h = h
one_below (Some f) rest n x own l h = (let e = own f refl in omega arith, h)

live_below : (F : List Feature) (ns : List ℕ) (x : ℕ) → Every (λ (n : ℕ). n < x) ns → Every (λ (g : Feature). g.handle < x) (live_of F ns)
live_below F [] x u = tt
live_below F (n ∷ ns) x u = one_below (feature_at F n) (live_of F ns) n x (λ f e. handle_of F n f e) u.0 (live_below F ns x u.1)

-- the features of the handles before this one stand below it
below_next : (F : List Feature) (ns : List ℕ) (i a : ℕ) (f : Feature) → IsStrictlyIncreasing ns → i < length ns → a ≡ get_or ns i a
    → feature_at F a ≡ Some f → Every (λ (g : Feature). g.handle < f.handle) (live_of F (take i ns))
below_next F ns i a f u l e k = rw (handle_of F a f k) (live_below F (take i ns) a
    (recursion_from_All (λ (n : ℕ). n < a) (take i ns) (all_before ns i a u l e)))

pub seen_below : (test : Feature → Bool) (F V : List Feature) (ns : List ℕ) (i a : ℕ) (f : Feature) → IsStrictlyIncreasing ns
    → i < length ns → a ≡ get_or ns i a → feature_at F a ≡ Some f → V ≡ filter test (live_of F (take i ns))
    → Every (λ (g : Feature). g.handle < f.handle) V
seen_below test F V ns i a f u l e k is = rw is (every_filter (λ (g : Feature). g.handle < f.handle) test (live_of F (take i ns))
    (below_next F ns i a f u l e k))
