-- The first ring that is too short.
use Rattle.std.proofs.Common.{◌≡◌, ℕ, zero, suc, ◌+◌, ◌<◌, ◌≤◌, List, [], ◌∷◌, ◌++◌, length, Option, Some, None, Bool, true, false, cond, nat_lt, refl, sym, ap, ◌∙◌, subst, arith, inl, inr, get_or, drop, Vec, length-append}
use Rattle.std.proofs.lemmas.List.{length-map}
use Rattle.std.specs.Global.{Global}
use Rattle.std.specs.Option.{is_some}
use Rattle.shape.specs.Given.{Ring, rings_in, polygons_in, all_rings}
use Rattle.plane_terms.specs.Lists.{Every, SomeOf}
use Rattle.plane_terms.specs.Point.{Place}
use Rattle.plane_terms.specs.declared.kind.Kind.{Kind}
use Rattle.plane_terms.specs.ShapeFaults.{least, IsShort, IsFirstOf}
use Rattle.shape.proofs.Dropped.{item_dropped}
use Rattle.shape.specs.Counts.{first_short, has_bare_part}

lt_true : (a b : ℕ) → nat_lt a b ≡ true → a < b
lt_true a b e = grind arith

lt_false : (a b : ℕ) → nat_lt a b ≡ false → b ≤ a
lt_false a b e = grind arith

-- ---- rings after rings
pub short_after : (fewest n : ℕ) (xs ys : List (List Place)) → first_short fewest n xs ≡ None
    → first_short fewest n (xs ++ ys) ≡ first_short fewest (n + length xs) ys
short_after fewest n [] ys e = ap (λ (m : ℕ). first_short fewest m ys) (omega arith)
short_after fewest n (x ∷ xs) ys e = by_test (nat_lt (length x) fewest) (short_after fewest (n + 1) xs ys) e
  where
    by_test : (b : Bool)
        → (first_short fewest (n + 1) xs ≡ None → first_short fewest (n + 1) (xs ++ ys) ≡ first_short fewest (n + 1 + length xs) ys)
        → cond b (Some n) (first_short fewest (n + 1) xs) ≡ None
        → cond b (Some n) (first_short fewest (n + 1) (xs ++ ys)) ≡ first_short fewest (n + suc (length xs)) ys
    by_test true f e = cc
    by_test false f e = f e ∙ ap (λ (m : ℕ). first_short fewest m ys) (omega arith)

pub short_before : (fewest n k : ℕ) (xs ys : List (List Place)) → first_short fewest n xs ≡ Some k
    → first_short fewest n (xs ++ ys) ≡ Some k
short_before fewest n k [] ys e = cc
short_before fewest n k (x ∷ xs) ys e = by_test (nat_lt (length x) fewest) (short_before fewest (n + 1) k xs ys) e
  where
    by_test : (b : Bool) → (first_short fewest (n + 1) xs ≡ Some k → first_short fewest (n + 1) (xs ++ ys) ≡ Some k)
        → cond b (Some n) (first_short fewest (n + 1) xs) ≡ Some k → cond b (Some n) (first_short fewest (n + 1) (xs ++ ys)) ≡ Some k
    by_test true f e = e
    by_test false f e = f e

-- ---- what the number says
pub none_short : (k : Kind) (n : ℕ) (rings : List (List Place)) → first_short (least k) n rings ≡ None
    → Every (λ ring. least k ≤ length ring) rings
none_short k n [] e = tt
none_short k n (x ∷ xs) e = by_test (nat_lt (length x) (least k)) refl (none_short k (n + 1) xs) e
  where
    by_test : (b : Bool) → nat_lt (length x) (least k) ≡ b
        → (first_short (least k) (n + 1) xs ≡ None → Every (λ ring. least k ≤ length ring) xs)
        → cond b (Some n) (first_short (least k) (n + 1) xs) ≡ None → (least k ≤ length x) × Every (λ ring. least k ≤ length ring) xs
    by_test true t f e = cc
    by_test false t f e = (lt_false (length x) (least k) t, f e)

record ShortAt (k : Kind) (n m : ℕ) (rings : List (List Place)) : Type 0 where
  at : ℕ
  sum : m ≡ n + at
  first : IsFirstOf (IsShort k) rings at

short_at : (k : Kind) (n m : ℕ) (rings : List (List Place)) → first_short (least k) n rings ≡ Some m → ShortAt k n m rings
short_at k n m [] e = cc
short_at k n m (x ∷ xs) e = by_test (nat_lt (length x) (least k)) refl (short_at k (n + 1) m xs) e
  where
    same : Some n ≡ Some m → m ≡ n + zero
    same e = let k : n ≡ m = cc in omega (arith, k)

    by_test : (b : Bool) → nat_lt (length x) (least k) ≡ b → (first_short (least k) (n + 1) xs ≡ Some m → ShortAt k (n + 1) m xs)
        → cond b (Some n) (first_short (least k) (n + 1) xs) ≡ Some m → ShortAt k n m (x ∷ xs)
    by_test true t f e = record { at = zero; sum = same e; first = lt_true (length x) (least k) t }
    by_test false t f e =
        let s = f e in
        record {
          at = suc s.at;
          sum = omega (arith, s.sum);
          first = (λ (h : length x < least k). omega (arith, h, lt_false (length x) (least k) t), s.first);
        }

pub short_first : (k : Kind) (m : ℕ) (rings : List (List Place)) → first_short (least k) 0 rings ≡ Some m → IsFirstOf (IsShort k) rings m
short_first k m rings e =
    let s = short_at k 0 m rings e in
    subst (λ (i : ℕ). IsFirstOf (IsShort k) rings i) (sym (s.sum ∙ omega arith)) s.first

-- none is the first of those that there are not
pub none_first : {A : Type 0} (P : A → Type 0) (xs : List A) (n : ℕ) → Every (λ x. ¬ (P x)) xs → ¬ (IsFirstOf P xs n)
none_first P [] n h f = f
none_first P (x ∷ xs) zero h f = h.0 f
none_first P (x ∷ xs) (suc n) h f = none_first P xs n h.1 f.1

pub long_none : (k : Kind) (rings : List (List Place)) → Every (λ ring. least k ≤ length ring) rings
    → Every (λ ring. ¬ (IsShort k ring)) rings
long_none k [] h = tt
long_none k (x ∷ xs) h = (λ (s : length x < least k). omega (arith, s, h.0), long_none k xs h.1)

-- ---- parts without a ring
pub bare_some : (parts : List (List (List Place))) → has_bare_part parts ≡ true → SomeOf (λ part. part ≡ []) parts
bare_some [] e = cc
bare_some ([] ∷ ps) e = inl refl
bare_some ((r ∷ rs) ∷ ps) e = inr (bare_some ps e)

pub bare_none : (parts : List (List (List Place))) → has_bare_part parts ≡ false → ¬ (SomeOf (λ part. part ≡ []) parts)
bare_none [] e h = h
bare_none ([] ∷ ps) e h = cc
bare_none ((r ∷ rs) ∷ ps) e (inl h) = cc
bare_none ((r ∷ rs) ∷ ps) e (inr h) = bare_none ps e h

-- ---- a part's rings and those of the parts after it
some_after : (n : ℕ) (xs ys : List (List Place)) (r : Option ℕ) → is_some r ≡ true → r ≡ first_short 3 n xs → first_short 3 n (xs ++ ys) ≡ r
some_after n xs ys None t e = cc
some_after n xs ys (Some k) t e = short_before 3 n k xs ys (sym e)

none_after : (n : ℕ) (xs ys : List (List Place)) (r : Option ℕ) → is_some r ≡ false → r ≡ first_short 3 n xs
    → first_short 3 n (xs ++ ys) ≡ first_short 3 (n + length xs) ys
none_after n xs ys None t e = short_after 3 n xs ys (sym e)
none_after n xs ys (Some k) t e = cc

pub short_in_part : (n : ℕ) (ps : List (Vec Ring Global)) (i : ℕ) (p : Vec Ring Global) (r : Option ℕ) → i < length ps → p ≡ get_or ps i p
    → is_some r ≡ true → r ≡ first_short 3 n (rings_in p.items) → first_short 3 n (all_rings (polygons_in (drop i ps))) ≡ r
short_in_part n ps i p r h e t f =
    ap (λ (qs : List (Vec Ring Global)). first_short 3 n (all_rings (polygons_in qs))) (item_dropped ps i p h e)
    ∙ some_after n (rings_in p.items) (all_rings (polygons_in (drop (i + 1) ps))) r t f

pub short_past_part : (n : ℕ) (ps : List (Vec Ring Global)) (i : ℕ) (p : Vec Ring Global) (r : Option ℕ) → i < length ps → p ≡ get_or ps i p
    → is_some r ≡ false → r ≡ first_short 3 n (rings_in p.items)
    → first_short 3 n (all_rings (polygons_in (drop i ps))) ≡ first_short 3 (n + length p.items) (all_rings (polygons_in (drop (i + 1) ps)))
short_past_part n ps i p r h e t f =
    let rest = all_rings (polygons_in (drop (i + 1) ps)) in
    ap (λ (qs : List (Vec Ring Global)). first_short 3 n (all_rings (polygons_in qs))) (item_dropped ps i p h e)
    ∙ none_after n (rings_in p.items) rest r t f
    ∙ ap (λ (m : ℕ). first_short 3 (n + m) rest) (length-map p.items (λ (ring : Ring). ring.items))

pub counted_past_part : (ps : List (Vec Ring Global)) (i : ℕ) (p : Vec Ring Global) → i < length ps → p ≡ get_or ps i p
    → length (all_rings (polygons_in (drop i ps))) ≡ length p.items + length (all_rings (polygons_in (drop (i + 1) ps)))
counted_past_part ps i p h e =
    let rest = all_rings (polygons_in (drop (i + 1) ps)) in
    ap (λ (qs : List (Vec Ring Global)). length (all_rings (polygons_in qs))) (item_dropped ps i p h e)
    ∙ length-append (rings_in p.items) rest ∙ ap (λ (m : ℕ). m + length rest) (length-map p.items (λ (ring : Ring). ring.items))
