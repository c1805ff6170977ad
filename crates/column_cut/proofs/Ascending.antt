-- What a sort and the dropping of doubles leave is the ascending list of the numbers, each once.
use Rattle.std.proofs.Common.{◌≡◌, ℤ, ◌<ℤ◌, arith, sym, subst, refl, ◌∙◌, inl, inr, List, [], ◌∷◌, ◌++◌}
use Rattle.std.proofs.Common.{Bool, true, false, cond}
use Rattle.std.proofs.lemmas.Grind.{common_steps}
use Rattle.std.proofs.lemmas.Int.{ints}
use Rattle.std.specs.List.{dedup}
use Rattle.std.specs.List.Sorted.{IsPermutation, IsSorted, IsStrictlySortedBy}
use Rattle.std.specs.Ordering.{int_cmp, int_eq}
use Rattle.std.specs.Cmp.{int_ranked, int_eq_equiv, int_cmp_total, signed_Decides}
use Rattle.std.specs.declared.cmp.Ordering.TheVariants.{Less}
use Rattle.std.proofs.lemmas.List.Sorted.{Contains-permutation, IsPermutation-sym}
use Rattle.std.proofs.lemmas.List.Kept.{Contains-dedup, Contains-from_dedup, IsStrictlySortedBy-dedup}
use Rattle.plane_terms.specs.Lists.{Every}
use Rattle.plane_terms.specs.Segment.{Segment}
use Rattle.plane_terms.specs.Columns.{put, abscissas, ordinates}
use Rattle.column_laws.specs.Rising.{IsRising}
use Rattle.plane_terms.proofs.ListLemmas.{every_map, IsAmong, among_at, contains_among}
use Rattle.column_laws.proofs.Numbers.{every-put, IsRising-put, among-put, among-put_other, from-put}
use Rattle.column_cut.specs.Vertices.{ascending, xs_of, ys_at, is_at}
use Rattle.column_cut.proofs.Unique.{same_by_members}

-- ---- the ascending list
ascending-rising : (vs : List ℤ) → IsRising (ascending vs)
ascending-rising [] = tt
ascending-rising (v ∷ vs) = IsRising-put v (ascending vs) (ascending-rising vs)

among_ascending : (z : ℤ) (vs : List ℤ) → IsAmong z vs → IsAmong z (ascending vs)
among_ascending z [] m = m
among_ascending z (v ∷ vs) (inl e) = subst (λ u. IsAmong u (put v (ascending vs))) (sym e) (among-put v (ascending vs))
among_ascending z (v ∷ vs) (inr m) = among-put_other z v (ascending vs) (among_ascending z vs m)

from_ascending : (z : ℤ) (vs : List ℤ) → IsAmong z (ascending vs) → IsAmong z vs
from_ascending z [] m = m
from_ascending z (v ∷ vs) m = elim (from-put z v (ascending vs) m) [ inl e ↦ inl e | inr k ↦ inr (from_ascending z vs k) ]

pub every_ascending : (P : ℤ → Type 0) (vs : List ℤ) → Every P vs → Every P (ascending vs)
every_ascending P [] h = tt
every_ascending P (v ∷ vs) h = every-put P v (ascending vs) h.0 (every_ascending P vs h.1)

-- ---- sorted, without doubles
rising_from_sorted : (xs : List ℤ) → IsStrictlySortedBy int_cmp xs → IsRising xs
unfolding IsStrictlySortedBy
rising_from_sorted [] h = tt
rising_from_sorted (x ∷ xs) h = (
  every_map (λ y. int_cmp x y ≡ Less) (λ y. x <ℤ y)
      (λ y e. int_ranked x y Less (sym e)) xs h.0,
  rising_from_sorted xs h.1,
)

not_both : (a b : ℤ) → a <ℤ b → b <ℤ a → ⊥
not_both a b h k = omega (arith, ints)

pub distinct_is : (vs sorted : List ℤ) → IsPermutation vs sorted → IsSorted int_cmp sorted → dedup int_eq sorted ≡ ascending vs
distinct_is vs sorted p s =
    same_by_members (λ a b. a <ℤ b) not_both (dedup int_eq sorted) (ascending vs)
    (rising_from_sorted (dedup int_eq sorted) (IsStrictlySortedBy-dedup int_cmp_total (λ x y. refl) sorted s)) (ascending-rising vs)
    (λ z m.
    let c = Contains-permutation sorted vs z (IsPermutation-sym vs sorted p)
    (Contains-from_dedup int_eq sorted z (contains_among (dedup int_eq sorted) z m)) in
    among_ascending z vs (among_at vs c.0 z c.1 c.2))
    (λ z m.
    let c = Contains-dedup int_eq_equiv (λ x y. (signed_Decides x y).0) sorted z
    (Contains-permutation vs sorted z p (contains_among vs z (from_ascending z vs m))) in
    among_at (dedup int_eq sorted) c.0 z c.1 c.2)

-- ---- the coordinates of the vertices
pub abscissas_are : (ss : List Segment) → ascending (xs_of ss) ≡ abscissas ss
abscissas_are [] = refl
abscissas_are (s ∷ ss) = rw (abscissas_are ss) refl

pub ordinates_are : (x : ℤ) (ss : List Segment) → ascending (ys_at x ss) ≡ ordinates x ss
ordinates_are x [] = refl
ordinates_are x (s ∷ ss) = by_tests (is_at s.lo.x x) (is_at s.hi.x x) (ordinates_are x ss)
  where
    by_tests : (a b : Bool) → ascending (ys_at x ss) ≡ ordinates x ss →
        ascending (cond b (s.hi.y ∷ cond a (s.lo.y ∷ ys_at x ss) (ys_at x ss)) (cond a (s.lo.y ∷ ys_at x ss) (ys_at x ss)))
        ≡ cond b (put s.hi.y (cond a (put s.lo.y (ordinates x ss)) (ordinates x ss)))
        (cond a (put s.lo.y (ordinates x ss)) (ordinates x ss))
    by_tests true true e = rw e refl
    by_tests true false e = rw e refl
    by_tests false true e = rw e refl
    by_tests false false e = e

-- ---- the loop that collects ordinates
pub push_ends : (vs rest : List ℤ) (a b : Bool) (low high : ℤ) → ((vs ++ cond b (high ∷ []) []) ++ cond a (low ∷ []) []) ++ rest
    ≡ vs ++ cond b (high ∷ cond a (low ∷ rest) rest) (cond a (low ∷ rest) rest)
push_ends vs rest true true low high = grind (arith, common_steps)
push_ends vs rest true false low high = grind (arith, common_steps)
push_ends vs rest false true low high = grind (arith, common_steps)
push_ends vs rest false false low high = grind (arith, common_steps)

pub every_end : (P : ℤ → Type 0) (vs : List ℤ) (v : ℤ) → Every P vs → P v → Every P (vs ++ v ∷ [])
every_end P [] v h k = (k, tt)
every_end P (x ∷ xs) v h k = (h.0, every_end P xs v h.1 k)

-- ---- a number that is there already
among-front : (z : ℤ) (xs ys : List ℤ) → IsAmong z xs → IsAmong z (xs ++ ys)
among-front z [] ys m = absurd m
among-front z (x ∷ xs) ys (inl e) = inl e
among-front z (x ∷ xs) ys (inr m) = inr (among-front z xs ys m)

among-more : (z y : ℤ) (xs ys : List ℤ) → IsAmong z (xs ++ ys) → IsAmong z (xs ++ y ∷ ys)
among-more z y [] ys m = inr m
among-more z y (x ∷ xs) ys (inl e) = inl e
among-more z y (x ∷ xs) ys (inr m) = inr (among-more z y xs ys m)

among-less : (z y : ℤ) (xs ys : List ℤ) → IsAmong y (xs ++ ys) → IsAmong z (xs ++ y ∷ ys) → IsAmong z (xs ++ ys)
among-less z y [] ys k (inl e) = subst (λ u. IsAmong u ys) (sym e) k
among-less z y [] ys k (inr m) = m
among-less z y (x ∷ xs) ys k (inl e) = inl e
among-less z y (x ∷ xs) ys (inl f) (inr m) = later z y x xs ys f m
  where
    later : (z y x : ℤ) (xs ys : List ℤ) → y ≡ x → IsAmong z (xs ++ y ∷ ys) → IsAmong z (x ∷ xs ++ ys)
    later z y x [] ys f (inl e) = inl (e ∙ f)
    later z y x [] ys f (inr m) = inr m
    later z y x (w ∷ xs) ys f (inl e) = inr (inl e)
    later z y x (w ∷ xs) ys f (inr m) = elim (later z y x xs ys f m) [ inl e ↦ inl e | inr n ↦ inr (inr n) ]
among-less z y (x ∷ xs) ys (inr k) (inr m) = inr (among-less z y xs ys k m)

pub ascending_known : (vs rest : List ℤ) (v : ℤ) → IsAmong v vs → ascending (vs ++ rest) ≡ ascending (vs ++ v ∷ rest)
ascending_known vs rest v k =
    same_by_members (λ a b. a <ℤ b) not_both (ascending (vs ++ rest)) (ascending (vs ++ v ∷ rest)) (ascending-rising (vs ++ rest))
    (ascending-rising (vs ++ v ∷ rest))
    (λ z m. among_ascending z (vs ++ v ∷ rest) (among-more z v vs rest (from_ascending z (vs ++ rest) m)))
    (λ z m. among_ascending z (vs ++ rest) (among-less z v vs rest (among-front v vs rest k) (from_ascending z (vs ++ v ∷ rest) m)))
