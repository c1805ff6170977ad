-- Parity of counts, and what it is round a ring.
--
-- differ a b      one of two facts holds, and not both
-- A test of segments that passes exactly where a fact of places differs at the two ends of a segment passes an even number of times
-- round a ring: each vertex is an end of two of its segments.
use Rattle.std.proofs.Common.{◌≡◌, ℕ, suc, ◌≤ℤ◌, arith, sym, ap, refl, ◌∙◌, Bool, true, false, not, cond, List, [], ◌∷◌, ◌++◌}
use Rattle.std.specs.Prelude.{flat_map}
use Rattle.std.proofs.lemmas.Int.{ints}
use Rattle.plane_terms.specs.Lists.{Every, how_many, is_odd}
use Rattle.plane_terms.specs.Point.{Place}
use Rattle.plane_terms.specs.Segment.{Segment, comes_before, segment_between}
use Rattle.plane_terms.specs.Shape.{Shape, path, closed_path, last_of, segments_of, rings_of}
use Rattle.plane_terms.specs.declared.kind.Kind.TheVariants as shapes
use Rattle.plane_terms.proofs.ListLemmas.{every_left, every_right}

unfoldable pub differ : Bool → Bool → Bool
differ true b = not b
differ false b = b

pub differ_self : (b : Bool) → differ b b ≡ false
unfolding differ
differ_self true = refl
differ_self false = refl

pub differ_none : (b c : Bool) → differ b c ≡ false → b ≡ c
unfolding differ
differ_none true true e = refl
differ_none true false e = e
differ_none false c e = sym e

pub differ_back : (b c : Bool) → differ b c ≡ differ c b
unfolding differ
differ_back true true = refl
differ_back true false = refl
differ_back false true = refl
differ_back false false = refl

differ_joined : (a b c : Bool) → differ (differ a b) c ≡ differ a (differ b c)
unfolding differ
differ_joined true true true = refl
differ_joined true true false = refl
differ_joined true false c = refl
differ_joined false b c = refl

differ_through : (a b c : Bool) → differ (differ a b) (differ b c) ≡ differ a c
unfolding differ
differ_through true true c = refl
differ_through true false c = refl
differ_through false true true = refl
differ_through false true false = refl
differ_through false false c = refl

differ_pairs : (a b c d : Bool) → differ (differ a b) (differ c d) ≡ differ (differ a c) (differ b d)
unfolding differ
differ_pairs true true true true = refl
differ_pairs true true true false = refl
differ_pairs true true false true = refl
differ_pairs true true false false = refl
differ_pairs true false true true = refl
differ_pairs true false true false = refl
differ_pairs true false false true = refl
differ_pairs true false false false = refl
differ_pairs false true true true = refl
differ_pairs false true true false = refl
differ_pairs false true false true = refl
differ_pairs false true false false = refl
differ_pairs false false c d = refl

-- ---- of counts
odd_more : (t : Bool) (n : ℕ) → is_odd (cond t (suc n) n) ≡ differ t (is_odd n)
unfolding differ
odd_more true n = refl
odd_more false n = refl

odd_joined : {A : Type 0} (test : A → Bool) (xs ys : List A)
    → is_odd (how_many test (xs ++ ys)) ≡ differ (is_odd (how_many test xs)) (is_odd (how_many test ys))
unfolding differ
odd_joined test [] ys = refl
odd_joined test (x ∷ xs) ys =
    let m = is_odd (how_many test xs) in
    let n = is_odd (how_many test ys) in
    odd_more (test x) (how_many test (xs ++ ys))
    ∙ (ap (differ (test x)) (odd_joined test xs ys)
    ∙ (sym (differ_joined (test x) m n) ∙ ap (λ b. differ b n) (sym (odd_more (test x) (how_many test xs)))))

-- the two counts differ in parity where the number of those that pass one test and not the other is odd
pub odd_differ : {A : Type 0} (t u : A → Bool) (xs : List A)
    → is_odd (how_many (λ x. differ (t x) (u x)) xs) ≡ differ (is_odd (how_many t xs)) (is_odd (how_many u xs))
unfolding differ
odd_differ t u [] = refl
odd_differ t u (x ∷ xs) =
    let m = how_many t xs in
    let n = how_many u xs in
    odd_more (differ (t x) (u x)) (how_many (λ x. differ (t x) (u x)) xs)
    ∙ (ap (differ (differ (t x) (u x))) (odd_differ t u xs)
    ∙ (differ_pairs (t x) (u x) (is_odd m) (is_odd n)
    ∙ (ap (λ b. differ b (differ (u x) (is_odd n))) (sym (odd_more (t x) m))
    ∙ ap (differ (is_odd (how_many t (x ∷ xs)))) (sym (odd_more (u x) n)))))

-- ---- the order of two neighbours
pub in_order : (a b : Place) → comes_before a b ≡ true → a.x ≤ℤ b.x
in_order a b e = grind (arith, ints)

pub out_of_order : (a b : Place) → comes_before a b ≡ false → b.x ≤ℤ a.x
out_of_order a b e = grind (arith, ints)

-- ---- round a ring
last_added : (a b : Place) (ps : List Place) → last_of a (ps ++ b ∷ []) ≡ b
last_added a b [] = refl
last_added a b (q ∷ ps) = last_added q b ps

-- a test and a fact, and what is known of the segments
module _ (test : Segment → Bool) (fact : Place → Bool) (Known : Segment → Type 0)
    (at_ends : (a b : Place) → Known (segment_between a b) → test (segment_between a b) ≡ differ (fact a) (fact b)) where
  path_parity : (a : Place) (ps : List Place) → Every Known (path (a ∷ ps))
      → is_odd (how_many test (path (a ∷ ps))) ≡ differ (fact a) (fact (last_of a ps))
  path_parity a [] h = sym (differ_self (fact a))
  path_parity a (b ∷ ps) h =
      let one = at_ends a b h.0 in
      let rest = path_parity b ps h.1 in
      odd_more (test (segment_between a b)) (how_many test (path (b ∷ ps)))
      ∙ (rw (one, rest) (differ_through (fact a) (fact b) (fact (last_of b ps))))

  closed_even : (ring : List Place) → Every Known (closed_path ring) → is_odd (how_many test (closed_path ring)) ≡ false
  closed_even [] h = refl
  closed_even (a ∷ ps) h = path_parity a (ps ++ a ∷ []) h
      ∙ (ap (λ q. differ (fact a) (fact q)) (last_added a a ps) ∙ differ_self (fact a))

  rings_even : (rings : List (List Place)) → Every Known (flat_map closed_path rings)
      → is_odd (how_many test (flat_map closed_path rings)) ≡ false
  unfolding differ
  rings_even [] h = refl
  rings_even (ring ∷ rings) h =
      odd_joined test (closed_path ring) (flat_map closed_path rings)
      ∙ rw (closed_even ring (every_left Known (closed_path ring) (flat_map closed_path rings) h))
      (rings_even rings (every_right Known (closed_path ring) (flat_map closed_path rings) h))

  pub round_even : (s : Shape) → s.kind ≡ shapes.Polygon → Every Known (segments_of s) → is_odd (how_many test (segments_of s)) ≡ false
  round_even s e = rw e (rings_even (rings_of s))
