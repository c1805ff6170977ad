-- The first ring that is not closed, part by part.
--
-- closed_is          a ring is closed where the first and the last of its places are the same
-- in_part, past_part     the first open ring is in this part, or it is sought behind it
-- open_at, none_open      what the number says, and what it says that there is none
use Rattle.std.proofs.Common.{ℕ, zero, suc, ◌≡◌, ◌<◌, ◌≤◌, ◌+◌, ◌-◌, Bool, true, false, cond, List, [], ◌∷◌, ◌++◌, length, get_or, drop, Option, Some, None, Vec, length-append, refl, sym, ap, ◌∙◌, subst, arith}
use Rattle.std.proofs.lemmas.List.{length-map}
use Rattle.std.proofs.Math.Seq.{drop-cons}
use Rattle.std.specs.Global.{Global}
use Rattle.std.specs.Option.{is_some}
use Rattle.plane_terms.specs.Lists.{Every}
use Rattle.plane_terms.specs.Point.{Place, same_place}
use Rattle.plane_terms.specs.Shape.{last_of}
use Rattle.plane_terms.specs.ShapeFaults.{IsFirstOf}
use Rattle.wkt_terms.specs.Shapes.{is_closed, IsOpen}
use Rattle.shape.specs.Given.{Ring, rings_in as lists_of, polygons_in as parts_of}
use Rattle.shape.specs.Given.{all_rings}
use Rattle.wkt_text.specs.Open.{first_open}
use Rattle.shape.proofs.Ends.{last_is}

pub closed_is : (xs : List Place) (x y : Place) → 1 ≤ length xs → x ≡ get_or xs 0 x → y ≡ get_or xs (length xs - 1) y
    → same_place x y ≡ is_closed xs
closed_is [] x y some first last = absurd (omega arith)
closed_is (p ∷ ps) x y some first last =
    let at : length (p ∷ ps) - 1 ≡ length ps = omega arith in
    let e : y ≡ last_of p ps = last ∙ (ap (λ k. get_or (p ∷ ps) k y) at ∙ sym (last_is p ps y)) in
    ap (λ v. same_place v y) first ∙ ap (λ v. same_place p v) e

-- ---- rings behind rings

first_after : (n : ℕ) (xs ys : List (List Place)) → first_open n xs ≡ None → first_open n (xs ++ ys) ≡ first_open (n + length xs) ys
first_after n [] ys e = ap (λ (m : ℕ). first_open m ys) (omega arith)
first_after n (x ∷ xs) ys e = by_test (is_closed x) (first_after (n + 1) xs ys) e
  where
    by_test : (b : Bool) → (first_open (n + 1) xs ≡ None → first_open (n + 1) (xs ++ ys) ≡ first_open (n + 1 + length xs) ys)
        → cond b (first_open (n + 1) xs) (Some n) ≡ None
        → cond b (first_open (n + 1) (xs ++ ys)) (Some n) ≡ first_open (n + suc (length xs)) ys
    by_test true f e = f e ∙ ap (λ (m : ℕ). first_open m ys) (omega arith)
    by_test false f e = cc

first_before : (n k : ℕ) (xs ys : List (List Place)) → first_open n xs ≡ Some k → first_open n (xs ++ ys) ≡ Some k
first_before n k [] ys e = cc
first_before n k (x ∷ xs) ys e = by_test (is_closed x) (first_before (n + 1) k xs ys) e
  where
    by_test : (b : Bool) → (first_open (n + 1) xs ≡ Some k → first_open (n + 1) (xs ++ ys) ≡ Some k)
        → cond b (first_open (n + 1) xs) (Some n) ≡ Some k → cond b (first_open (n + 1) (xs ++ ys)) (Some n) ≡ Some k
    by_test true f e = f e
    by_test false f e = e

-- ---- part by part

abbrev pub Part : Type 0
Part = Vec Ring Global

abbrev pub left : List Part → ℕ → List (List Place)
left parts i = all_rings (parts_of (drop i parts))

part_left : (parts : List Part) (i : ℕ) (p : Part) → i < length parts → p ≡ get_or parts i p
    → left parts i ≡ lists_of p.items ++ left parts (i + 1)
part_left parts i p below is =
    let next : i + 1 ≡ suc i = omega arith in
    rw next (ap (λ ps. all_rings (parts_of ps)) (drop-cons parts i p below)
    ∙ ap (λ (v : Part). lists_of v.items ++ all_rings (parts_of (drop (suc i) parts))) (sym is))

pub in_part : (from : ℕ) (parts : List Part) (i : ℕ) (p : Part) (o : Option ℕ) → i < length parts → p ≡ get_or parts i p → is_some o ≡ true
    → o ≡ first_open from (lists_of p.items) → first_open from (left parts i) ≡ o
in_part from parts i p None below is some e = cc
in_part from parts i p (Some k) below is some e =
    ap (first_open from) (part_left parts i p below is) ∙ first_before from k (lists_of p.items) (left parts (i + 1)) (sym e)

pub past_part : (from : ℕ) (parts : List Part) (i : ℕ) (p : Part) (o : Option ℕ) → i < length parts → p ≡ get_or parts i p
    → is_some o ≡ false → o ≡ first_open from (lists_of p.items)
    → first_open from (left parts i) ≡ first_open (from + length p.items) (left parts (i + 1))
past_part from parts i p (Some k) below is none e = cc
past_part from parts i p None below is none e =
    ap (first_open from) (part_left parts i p below is) ∙ (first_after from (lists_of p.items) (left parts (i + 1)) (sym e)
    ∙ ap (λ n. first_open (from + n) (left parts (i + 1))) (length-map p.items (λ list. list.items)))

pub counted : (parts : List Part) (i : ℕ) (p : Part) → i < length parts → p ≡ get_or parts i p
    → length (left parts i) ≡ length p.items + length (left parts (i + 1))
counted parts i p below is =
    ap length (part_left parts i p below is)
    ∙ (length-append (lists_of p.items) (left parts (i + 1))
    ∙ ap (λ n. n + length (left parts (i + 1))) (length-map p.items (λ list. list.items)))

-- ---- what the number says

record OpenAt (n m : ℕ) (rings : List (List Place)) : Type 0 where
  at : ℕ
  sum : m ≡ n + at
  first : IsFirstOf IsOpen rings at

open_from : (n m : ℕ) (rings : List (List Place)) → first_open n rings ≡ Some m → OpenAt n m rings
open_from n m [] e = cc
open_from n m (x ∷ xs) e = by_test (is_closed x) refl (open_from (n + 1) m xs) e
  where
    same : Some n ≡ Some m → m ≡ n + zero
    same e = let k : n ≡ m = cc in omega (arith, k)

    by_test : (b : Bool) → is_closed x ≡ b → (first_open (n + 1) xs ≡ Some m → OpenAt (n + 1) m xs)
        → cond b (first_open (n + 1) xs) (Some n) ≡ Some m → OpenAt n m (x ∷ xs)
    by_test true t f e =
        let r = f e in
        record { at = suc r.at; sum = omega (arith, r.sum); first = (λ e. cc, r.first) }
    by_test false t f e = record { at = zero; sum = same e; first = t }

pub open_at : (m : ℕ) (rings : List (List Place)) → first_open 0 rings ≡ Some m → IsFirstOf IsOpen rings m
open_at m rings e =
    let r = open_from 0 m rings e in
    let same : r.at ≡ m = omega (arith, r.sum) in
    subst (λ (k : ℕ). IsFirstOf IsOpen rings k) same r.first

none_from : (n : ℕ) (rings : List (List Place)) → first_open n rings ≡ None → Every (λ ring. is_closed ring ≡ true) rings
none_from n [] e = tt
none_from n (x ∷ xs) e = by_test (is_closed x) refl (none_from (n + 1) xs) e
  where
    by_test : (b : Bool) → is_closed x ≡ b → (first_open (n + 1) xs ≡ None → Every (λ ring. is_closed ring ≡ true) xs)
        → cond b (first_open (n + 1) xs) (Some n) ≡ None → (is_closed x ≡ true) × Every (λ ring. is_closed ring ≡ true) xs
    by_test true t f e = (t, f e)
    by_test false t f e = cc

pub none_open : (rings : List (List Place)) → first_open 0 rings ≡ None → Every (λ ring. is_closed ring ≡ true) rings
none_open rings e = none_from 0 rings e
