-- Over a view: whether a feature of the side passes a test, and how many of all their segments or ends do.
use Rattle.std.proofs.Common.{◌≡◌, ℕ, ◌+◌, ◌<◌, ◌≤◌, Bool, true, false, List, [], ◌∷◌, Some}
use Rattle.std.proofs.Common.{refl, sym, ◌∙◌, ap, take, drop, cond, append-nil, arith}
use Rattle.std.specs.Prelude.{slice_get, ◌==◌, ◌&&◌, ◌||◌, flat_map}
use Rattle.std.specs.List.{filter, list_any}
use Rattle.std.proofs.lemmas.Grind.{flat_map-append}
use Rattle.std.proofs.lemmas.Int.{ints}
use Rattle.std.proofs.lemmas.Bool.{false≢true}
use Rattle.std.proofs.lemmas.Bool.Decides.{nat_tests}
use Rattle.plane_terms.specs.Lists.{Every, how_many}
use Rattle.plane_terms.specs.Point.{Place, same_place}
use Rattle.plane_terms.specs.Rectangle.{Rectangle, IsWithin, rect_at, is_within}
use Rattle.plane_terms.specs.Segment.{Segment, box_of}
use Rattle.plane_terms.specs.Line.{holds_place, box_holds}
use Rattle.topology_terms.specs.Feature.{Feature, is_on_side, Side, sides, env}
use Rattle.topology_terms.specs.Together.{of_side, ends}
use Rattle.topology_terms.specs.Tests.{segments_at, ends_at}
use Rattle.rule_laws.proofs.Envelopes.{BothEnds, LiesIn, segments_ends, ends_in}
use Rattle.cell_laws.proofs.AtPlaces.{same_is}
use Rattle.rule_loops.specs.Views.{round_of, up_to_three}
use Rattle.rule_loops.proofs.Boxes.{box_within}
use Rattle.rule_loops.proofs.More.{side_apart, side_more}
use Rattle.plane_terms.proofs.ListLemmas.{how_many_joined}
use Rattle.plane_terms.proofs.Truths.{both_parts}

-- ---- one that passes
-- of those kept, one passes where one of all is kept and passes
pub any_kept : {A : Type 0} (kept test : A → Bool) (xs : List A) → list_any test (filter kept xs) ≡ list_any (λ x. kept x && test x) xs
any_kept kept test [] = refl
any_kept {A} kept test (x ∷ xs) = pick (kept x) (any_kept kept test xs)
  where
    pick : (b : Bool) → list_any test (filter kept xs) ≡ list_any (λ x. kept x && test x) xs
        → list_any test (cond b (x ∷ filter kept xs) (filter kept xs)) ≡ ((b && test x) || list_any (λ x. kept x && test x) xs)
    pick true e = rw e refl
    pick false e = e

-- ---- up to three
pub three_more : (m n : ℕ) → up_to_three (up_to_three m + up_to_three n) ≡ up_to_three (m + n)
three_more m n = grind (arith, nat_tests)

pub three_is : (m n k : ℕ) → m ≡ up_to_three n → k < 3 → (m == k) ≡ (n == k)
three_is m n k e l = grind (arith, nat_tests)

-- ---- how many of all
module _ {A : Type 0} (test : A → Bool) (items : Feature → List A) (S : Side) (V : List Feature) (i : ℕ) (g : Feature)
    (e : slice_get V i ≡ Some g) where
  all_with : (b : Bool) → is_on_side S g ≡ b → how_many test (flat_map items (of_side S (take (i + 1) V)))
      ≡ how_many test (flat_map items (of_side S (take i V))) + how_many test (flat_map items (cond b (g ∷ []) []))
  all_with b t =
      ap (λ gs. how_many test (flat_map items gs)) (side_more S V i g b e t)
      ∙ (ap (how_many test) (flat_map-append items (of_side S (take i V)) (cond b (g ∷ []) []))
      ∙ how_many_joined test (flat_map items (of_side S (take i V))) (flat_map items (cond b (g ∷ []) [])))

  pub all_more : is_on_side S g ≡ true → how_many test (flat_map items (of_side S (take (i + 1) V)))
      ≡ how_many test (flat_map items (of_side S (take i V))) + how_many test (items g)
  all_more t = all_with true t
      ∙ ap (λ xs. how_many test (flat_map items (of_side S (take i V))) + how_many test xs) (append-nil (items g))

  pub all_same : is_on_side S g ≡ false → how_many test (flat_map items (of_side S (take (i + 1) V)))
      ≡ how_many test (flat_map items (of_side S (take i V)))
  all_same t = let a = all_with false t in omega (arith, a)

-- those whose envelope does not hold the place have nothing there
pub none_many : {A : Type 0} (test : A → Bool) (P : A → Type 0) → ((x : A) → P x → test x ≡ false) → (xs : List A) → Every P xs
    → how_many test xs ≡ 0
none_many test P m [] u = refl
none_many test P m (x ∷ xs) u = rw (m x u.0) (none_many test P m xs u.1)

pub held_wider : (q : Place) (c r : Rectangle) → IsWithin c r → box_holds c q ≡ true → is_within (rect_at q) r ≡ true
held_wider q c r w h = grind (arith, ints)

pub not_from : (b c : Bool) → (b ≡ true → c ≡ true) → c ≡ false → b ≡ false
not_from true c m e = sym (m refl) ∙ e
not_from false c m e = refl

no_segment : (q : Place) (g : Feature) → is_within (rect_at q) (env g) ≡ false → how_many (λ t. holds_place t q) (sides g) ≡ 0
no_segment q g n = none_many (λ (t : Segment). holds_place t q) (BothEnds (LiesIn (env g)))
    (λ t b. not_from (holds_place t q) (is_within (rect_at q) (env g))
    (λ h. held_wider q (box_of t) (env g) (box_within t (env g) b) (both_parts _ (box_holds (box_of t) q) h).1) n) (sides g)
    (segments_ends g.shape)

no_end : (q : Place) (g : Feature) → is_within (rect_at q) (env g) ≡ false → how_many (same_place q) (ends g) ≡ 0
no_end q g n = none_many (same_place q) (LiesIn (env g))
    (λ r b. not_from (same_place q r) (is_within (rect_at q) (env g)) (λ h. lies q r (same_is q r h) b) n) (ends g) (ends_in g.shape)
  where
    lies : (q r : Place) → q ≡ r → LiesIn (env g) r → is_within (rect_at q) (env g) ≡ true
    lies q r e w = rw e (grind (arith, ints))

module _ {A : Type 0} (test : A → Bool) (items : Feature → List A) (q : Place)
    (none : (g : Feature) → is_within (rect_at q) (env g) ≡ false → how_many test (items g) ≡ 0) where
  round_more : (S : Side) (V : List Feature) (i : ℕ) (g : Feature) (count : ℕ) → slice_get V i ≡ Some g → round_of S q g ≡ true
      → count ≡ up_to_three (how_many test (flat_map items (of_side S (take i V))))
      → up_to_three (count + up_to_three (how_many test (items g)))
      ≡ up_to_three (how_many test (flat_map items (of_side S (take (i + 1) V))))
  round_more S V i g count e t h =
      let before = how_many test (flat_map items (of_side S (take i V))) in
      rw h (three_more before (how_many test (items g)) ∙ sym (ap up_to_three (all_more test items S V i g e (and_left _ _ t))))
    where
      and_left : (a b : Bool) → (a && b) ≡ true → a ≡ true
      and_left true b e = refl
      and_left false b e = absurd (false≢true e)

  round_same : (S : Side) (V : List Feature) (i : ℕ) (g : Feature) (count : ℕ) → slice_get V i ≡ Some g → round_of S q g ≡ false
      → count ≡ up_to_three (how_many test (flat_map items (of_side S (take i V))))
      → count ≡ up_to_three (how_many test (flat_map items (of_side S (take (i + 1) V))))
  round_same S V i g count e t h = h ∙ ap up_to_three (sym (by_side (is_on_side S g) refl t))
    where
      before : ℕ
      before = how_many test (flat_map items (of_side S (take i V)))

      by_side : (b : Bool) → is_on_side S g ≡ b → (b && is_within (rect_at q) (env g)) ≡ false
          → how_many test (flat_map items (of_side S (take (i + 1) V))) ≡ before
      by_side true c m = let a = all_more test items S V i g e c in let z = none g m in omega (arith, a, z)
      by_side false c m = all_same test items S V i g e c

-- segments, and ends
pub segments_more : (q : Place) (S : Side) (V : List Feature) (i : ℕ) (g : Feature) (count : ℕ) → slice_get V i ≡ Some g
    → round_of S q g ≡ true → count ≡ up_to_three (segments_at (of_side S (take i V)) q)
    → up_to_three (count + up_to_three (how_many (λ t. holds_place t q) (sides g)))
    ≡ up_to_three (segments_at (of_side S (take (i + 1) V)) q)
segments_more q = round_more (λ (t : Segment). holds_place t q) sides q (no_segment q)

pub segments_same : (q : Place) (S : Side) (V : List Feature) (i : ℕ) (g : Feature) (count : ℕ) → slice_get V i ≡ Some g
    → round_of S q g ≡ false → count ≡ up_to_three (segments_at (of_side S (take i V)) q)
    → count ≡ up_to_three (segments_at (of_side S (take (i + 1) V)) q)
segments_same q = round_same (λ (t : Segment). holds_place t q) sides q (no_segment q)

pub segments_next : (q : Place) (S : Side) (V : List Feature) (i : ℕ) (g : Feature) (count new : ℕ) → slice_get V i ≡ Some g
    → new ≡ cond (round_of S q g) (up_to_three (count + up_to_three (how_many (λ t. holds_place t q) (sides g)))) count
    → count ≡ up_to_three (segments_at (of_side S (take i V)) q) → new ≡ up_to_three (segments_at (of_side S (take (i + 1) V)) q)
segments_next q S V i g count new e m h = pick (round_of S q g) refl m
  where
    more : ℕ
    more = up_to_three (count + up_to_three (how_many (λ t. holds_place t q) (sides g)))

    pick : (b : Bool) → round_of S q g ≡ b → new ≡ cond b more count → new ≡ up_to_three (segments_at (of_side S (take (i + 1) V)) q)
    pick true t m = m ∙ segments_more q S V i g count e t h
    pick false t m = m ∙ segments_same q S V i g count e t h

fewer : {A : Type 0} (test : A → Bool) (items : Feature → List A) (S : Side) (V : List Feature) (i : ℕ)
    → how_many test (flat_map items (of_side S (take i V))) ≤ how_many test (flat_map items (of_side S V))
fewer test items S V i =
    let before = of_side S (take i V) in
    let behind = of_side S (drop i V) in
    let all : how_many test (flat_map items (of_side S V)) ≡ how_many test (flat_map items before) + how_many test (flat_map items behind) =
    ap (λ gs. how_many test (flat_map items gs)) (side_apart S V i)
    ∙ (ap (how_many test) (flat_map-append items before behind) ∙ how_many_joined test (flat_map items before) (flat_map items behind)) in
    omega (arith, all)

pub segments_fewer : (q : Place) (S : Side) (V : List Feature) (i : ℕ) → segments_at (of_side S (take i V)) q ≤ segments_at (of_side S V) q
segments_fewer q n V i = fewer (λ (t : Segment). holds_place t q) sides n V i

pub ends_fewer : (q : Place) (S : Side) (V : List Feature) (i : ℕ) → ends_at (of_side S (take i V)) q ≤ ends_at (of_side S V) q
ends_fewer q n V i = fewer (same_place q) ends n V i

-- of those so far two, and so of all no single one
pub not_single : (count m n : ℕ) → count ≡ up_to_three m → 1 < count → m ≤ n → (n == 1) ≡ false
not_single count m n e l u = grind (arith, nat_tests)

-- of those so far three, and so of all three or more
pub three_there : (count m n : ℕ) → count ≡ up_to_three m → 2 < count → m ≤ n → count ≡ up_to_three n
three_there count m n e l u = grind (arith, nat_tests)

ends_more : (q : Place) (S : Side) (V : List Feature) (i : ℕ) (g : Feature) (count : ℕ) → slice_get V i ≡ Some g
    → round_of S q g ≡ true → count ≡ up_to_three (ends_at (of_side S (take i V)) q)
    → up_to_three (count + up_to_three (how_many (same_place q) (ends g)))
    ≡ up_to_three (ends_at (of_side S (take (i + 1) V)) q)
ends_more q = round_more (same_place q) ends q (no_end q)

pub ends_next : (q : Place) (S : Side) (V : List Feature) (i : ℕ) (g : Feature) (count more new : ℕ) → slice_get V i ≡ Some g
    → round_of S q g ≡ true → more ≡ up_to_three (how_many (same_place q) (ends g)) → new ≡ up_to_three (count + more)
    → count ≡ up_to_three (ends_at (of_side S (take i V)) q) → new ≡ up_to_three (ends_at (of_side S (take (i + 1) V)) q)
ends_next q n V i g count more new e t m k h = k ∙ (ap (λ x. up_to_three (count + x)) m ∙ ends_more q n V i g count e t h)

pub ends_same : (q : Place) (S : Side) (V : List Feature) (i : ℕ) (g : Feature) (count : ℕ) → slice_get V i ≡ Some g
    → round_of S q g ≡ false → count ≡ up_to_three (ends_at (of_side S (take i V)) q)
    → count ≡ up_to_three (ends_at (of_side S (take (i + 1) V)) q)
ends_same q = round_same (same_place q) ends q (no_end q)
