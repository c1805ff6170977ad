-- A list of handles, when one comes or goes at its end, and what is found in it.
use Rattle.std.proofs.Common.{ℕ, zero, suc, ◌+◌, ◌-◌, ◌<◌, ◌≤◌, ◌≡◌, ◌||◌, Bool, true, false, List, [], ◌∷◌, ◌++◌, Option, Some, None, refl, sym, ◌∙◌, ap, subst, arith, length, length-append, take, get_or, eqb, eq-eqb, nat_eq, Result, Contains, IsTrue, ◌↔◌}
use Rattle.std.specs.Prelude.{if◌then◌else◌, is_some, is_ok, cond, nat_lt, not}
use Rattle.std.specs.Ordering.{nat_cmp}
use Rattle.std.specs.Option.{unwrap_or}
use Rattle.std.specs.List.{list_any, count_by}
use Rattle.std.specs.List.Sorted.{IsStrictlyIncreasing, IsBinarySearchResult}
use Rattle.std.specs.Map.{count_at}
use Rattle.std.specs.HashMap.{HashMap, get}
use Rattle.std.proofs.lemmas.Bool.Decides.{nat_tests}
use Rattle.std.proofs.lemmas.List.Folds.{Any-from_list_any, list_any_at}
use Rattle.std.proofs.lemmas.List.Sums.{count_by-le-length, sum_by-append}
use Rattle.std.proofs.Math.Seq.{take-append_seam}
use Rattle.grid_plane.proofs.Found.{found_is}
use Rattle.edit_session.specs.HandleLists.{rising_from, others_from, floor_of, counted, one_less, AreCounts, AreKept}

-- ---- the rising handles and the other ones, by the last handle
rising_end : (n : ℕ) (hs : List ℕ) (h : ℕ) → rising_from n (hs ++ h ∷ [])
    ≡ (if nat_lt h (floor_of n (rising_from n hs)) then rising_from n hs else (rising_from n hs ++ h ∷ []))
rising_end n [] h = refl
rising_end n (g ∷ hs) h = by (nat_lt g n) (rising_end n hs h) (rising_end (suc g) hs h)
  where
    later : (c : Bool) (rs : List ℕ) → g ∷ (if c then rs else (rs ++ h ∷ [])) ≡ (if c then g ∷ rs else (g ∷ (rs ++ h ∷ [])))
    later true rs = refl
    later false rs = refl

    by : (b : Bool) → rising_from n (hs ++ h ∷ [])
        ≡ (if nat_lt h (floor_of n (rising_from n hs)) then rising_from n hs else (rising_from n hs ++ h ∷ []))
        → rising_from (suc g) (hs ++ h ∷ [])
        ≡ (if nat_lt h (floor_of (suc g) (rising_from (suc g) hs)) then rising_from (suc g) hs else (rising_from (suc g) hs ++ h ∷ []))
        → (if b then rising_from n (hs ++ h ∷ []) else (g ∷ rising_from (suc g) (hs ++ h ∷ [])))
        ≡ (if nat_lt h (floor_of n (if b then rising_from n hs else (g ∷ rising_from (suc g) hs)))
        then (if b then rising_from n hs else (g ∷ rising_from (suc g) hs))
        else ((if b then rising_from n hs else (g ∷ rising_from (suc g) hs)) ++ h ∷ []))
    by true e f = e
    by false e f = ap (λ xs. g ∷ xs) f ∙ later (nat_lt h (floor_of (suc g) (rising_from (suc g) hs))) (rising_from (suc g) hs)

others_end : (n : ℕ) (hs : List ℕ) (h : ℕ) → others_from n (hs ++ h ∷ [])
    ≡ (if nat_lt h (floor_of n (rising_from n hs)) then others_from n hs ++ h ∷ [] else others_from n hs)
others_end n [] h = refl
others_end n (g ∷ hs) h = by (nat_lt g n) (others_end n hs h) (others_end (suc g) hs h)
  where
    later : (c : Bool) (os : List ℕ) → g ∷ (if c then os ++ h ∷ [] else os) ≡ (if c then g ∷ (os ++ h ∷ []) else (g ∷ os))
    later true os = refl
    later false os = refl

    by : (b : Bool) → others_from n (hs ++ h ∷ [])
        ≡ (if nat_lt h (floor_of n (rising_from n hs)) then others_from n hs ++ h ∷ [] else others_from n hs)
        → others_from (suc g) (hs ++ h ∷ [])
        ≡ (if nat_lt h (floor_of (suc g) (rising_from (suc g) hs)) then others_from (suc g) hs ++ h ∷ [] else others_from (suc g) hs)
        → (if b then g ∷ others_from n (hs ++ h ∷ []) else others_from (suc g) (hs ++ h ∷ []))
        ≡ (if nat_lt h (floor_of n (if b then rising_from n hs else (g ∷ rising_from (suc g) hs)))
        then (if b then g ∷ others_from n hs else others_from (suc g) hs) ++ h ∷ []
        else (if b then g ∷ others_from n hs else others_from (suc g) hs))
    by true e f = ap (λ xs. g ∷ xs) e ∙ later (nat_lt h (floor_of n (rising_from n hs))) (others_from n hs)
    by false e f = f

-- ---- the floor
above_floor : (n : ℕ) (hs : List ℕ) → n ≤ floor_of n (rising_from n hs)
above_floor n [] = omega arith
above_floor n (g ∷ hs) = by (nat_lt g n) refl (above_floor n hs) (above_floor (suc g) hs)
  where
    by : (b : Bool) → nat_lt g n ≡ b → n ≤ floor_of n (rising_from n hs) → suc g ≤ floor_of (suc g) (rising_from (suc g) hs)
        → n ≤ floor_of n (if b then rising_from n hs else (g ∷ rising_from (suc g) hs))
    by true e l m = l
    by false e l m = grind (arith, nat_tests)

-- the floor is above the last of the rising handles
floor_last : (n : ℕ) (rs : List ℕ) (r : ℕ) → 0 < length rs → r ≡ get_or rs (length rs - 1) r → floor_of n rs ≡ suc r
floor_last n [] r l e = absurd (omega arith)
floor_last n (g ∷ []) r l e = ap suc (sym e)
floor_last n (g ∷ f ∷ rs) r l e =
    let last : length (g ∷ f ∷ rs) - 1 ≡ suc (length rs) = omega arith in
    let here : length rs ≡ length (f ∷ rs) - 1 = omega arith in
    floor_last (suc g) (f ∷ rs) r (omega arith)
    (e ∙ (ap (λ i. get_or (g ∷ f ∷ rs) i r) last ∙ ap (λ i. get_or (f ∷ rs) i r) here))

-- ---- the rising handles rise
first_floor : (n : ℕ) (hs : List ℕ) → 0 < length (rising_from n hs) → n ≤ get_or (rising_from n hs) 0 0
first_floor n [] l = absurd (omega arith)
first_floor n (g ∷ hs) l = by (nat_lt g n) refl (first_floor n hs) l
  where
    by : (b : Bool) → nat_lt g n ≡ b → (0 < length (rising_from n hs) → n ≤ get_or (rising_from n hs) 0 0)
        → 0 < length (if b then rising_from n hs else (g ∷ rising_from (suc g) hs))
        → n ≤ get_or (if b then rising_from n hs else (g ∷ rising_from (suc g) hs)) 0 0
    by true e l k = l k
    by false e l k = grind (arith, nat_tests)

rises_more : (g : ℕ) (rs : List ℕ) → (0 < length rs → suc g ≤ get_or rs 0 0) → IsStrictlyIncreasing rs → IsStrictlyIncreasing (g ∷ rs)
rises_more g rs first i zero l = let m = first (omega arith) in omega arith
rises_more g rs first i (suc k) l = let e : suc k + 1 ≡ suc (k + 1) = omega arith in rw e (i k (omega arith))

rises : (n : ℕ) (hs : List ℕ) → IsStrictlyIncreasing (rising_from n hs)
rises n [] = λ k l. absurd (omega arith)
rises n (g ∷ hs) = by (nat_lt g n) (rises n hs) (rises (suc g) hs)
  where
    by : (b : Bool) → IsStrictlyIncreasing (rising_from n hs) → IsStrictlyIncreasing (rising_from (suc g) hs)
        → IsStrictlyIncreasing (if b then rising_from n hs else (g ∷ rising_from (suc g) hs))
    by true i j = i
    by false i j = rises_more g (rising_from (suc g) hs) (first_floor (suc g) hs) j

-- ---- counts
count_more : (h o : ℕ) (os : List ℕ) → count_by (λ (o : ℕ). eqb o h) (o ∷ os)
    ≡ (if eqb o h then suc (count_by (λ (o : ℕ). eqb o h) os) else count_by (λ (o : ℕ). eqb o h) os)
count_more h o os = sum_by-append (λ (o : ℕ). cond (eqb o h) 1 0) (o ∷ []) os ∙ by (eqb o h)
  where
    by : (b : Bool) → 0 + cond b 1 0 + count_by (λ (o : ℕ). eqb o h) os
        ≡ (if b then suc (count_by (λ (o : ℕ). eqb o h) os) else count_by (λ (o : ℕ). eqb o h) os)
    by true = omega arith
    by false = omega arith

count_end : (h : ℕ) (os : List ℕ) (o : ℕ) → count_by (λ (o : ℕ). eqb o h) (os ++ o ∷ [])
    ≡ (if eqb o h then suc (count_by (λ (o : ℕ). eqb o h) os) else count_by (λ (o : ℕ). eqb o h) os)
count_end h os o = sum_by-append (λ (o : ℕ). cond (eqb o h) 1 0) os (o ∷ []) ∙ by (eqb o h)
  where
    by : (b : Bool) → count_by (λ (o : ℕ). eqb o h) os + (0 + cond b 1 0)
        ≡ (if b then suc (count_by (λ (o : ℕ). eqb o h) os) else count_by (λ (o : ℕ). eqb o h) os)
    by true = omega arith
    by false = omega arith

number_counted : (n : ℕ) → unwrap_or (counted n) 0 ≡ n
number_counted zero = refl
number_counted (suc n) = refl

-- what is as great as the floor is none of the other ones
no_other : (n : ℕ) (hs : List ℕ) (h : ℕ) → floor_of n (rising_from n hs) ≤ h → count_by (λ (o : ℕ). eqb o h) (others_from n hs) ≡ 0
no_other n [] h l = refl
no_other n (g ∷ hs) h l = by (nat_lt g n) refl (no_other n hs h) (no_other (suc g) hs h) l
  where
    by : (b : Bool) → nat_lt g n ≡ b → (floor_of n (rising_from n hs) ≤ h → count_by (λ (o : ℕ). eqb o h) (others_from n hs) ≡ 0)
        → (floor_of (suc g) (rising_from (suc g) hs) ≤ h → count_by (λ (o : ℕ). eqb o h) (others_from (suc g) hs) ≡ 0)
        → floor_of n (if b then rising_from n hs else (g ∷ rising_from (suc g) hs)) ≤ h
        → count_by (λ (o : ℕ). eqb o h) (if b then g ∷ others_from n hs else others_from (suc g) hs) ≡ 0
    by true e i j l =
        let m = above_floor n hs in
        let apart : eqb g h ≡ false = grind (arith, nat_tests) in
        count_more h g (others_from n hs) ∙ rw apart (i l)
    by false e i j l = j l

-- ---- what is found
or_true : (b : Bool) → (b || true) ≡ true
or_true true = refl
or_true false = refl

any_kept : (n : ℕ) (hs : List ℕ) (h : ℕ) → list_any (λ (o : ℕ). eqb o h) hs
    ≡ (is_some (counted (count_by (λ (o : ℕ). eqb o h) (others_from n hs))) || list_any (λ (o : ℕ). eqb o h) (rising_from n hs))
any_kept n [] h = refl
any_kept n (g ∷ hs) h = by (nat_lt g n) (eqb g h) refl (any_kept n hs h) (any_kept (suc g) hs h)
  where
    by : (b c : Bool) → eqb g h ≡ c → list_any (λ (o : ℕ). eqb o h) hs
        ≡ (is_some (counted (count_by (λ (o : ℕ). eqb o h) (others_from n hs))) || list_any (λ (o : ℕ). eqb o h) (rising_from n hs))
        → list_any (λ (o : ℕ). eqb o h) hs ≡ (is_some (counted (count_by (λ (o : ℕ). eqb o h) (others_from (suc g) hs)))
        || list_any (λ (o : ℕ). eqb o h) (rising_from (suc g) hs))
        → (c || list_any (λ (o : ℕ). eqb o h) hs)
        ≡ (is_some (counted (count_by (λ (o : ℕ). eqb o h) (if b then g ∷ others_from n hs else others_from (suc g) hs)))
        || list_any (λ (o : ℕ). eqb o h) (if b then rising_from n hs else (g ∷ rising_from (suc g) hs)))
    by true true e i j = rw (count_more h g (others_from n hs), e) refl
    by true false e i j = rw (count_more h g (others_from n hs), e) i
    by false true e i j = rw e (sym (or_true (is_some (counted (count_by (λ (o : ℕ). eqb o h) (others_from (suc g) hs))))))
    by false false e i j = rw e j

-- ---- the counts, when a handle comes or goes
module _ {S : Type 0} where
  counts_more : (m n : HashMap ℕ ℕ S) (os : List ℕ) (h : ℕ)
      → ((q : ℕ) → get nat_eq n q ≡ cond (nat_eq h q) (Some (count_at (get nat_eq m) h + 1)) (get nat_eq m q)) → AreCounts m os
      → AreCounts n (os ++ h ∷ [])
  counts_more m n os h put are q = put q ∙ rw (count_end q os h) (by (eqb h q) refl)
    where
      by : (b : Bool) → eqb h q ≡ b → cond b (Some (count_at (get nat_eq m) h + 1)) (get nat_eq m q)
          ≡ counted (if b then suc (count_by (λ (o : ℕ). eqb o q) os) else count_by (λ (o : ℕ). eqb o q) os)
      by true e =
          let same : h ≡ q = grind (arith, nat_tests) in
          let count : count_at (get nat_eq m) h ≡ count_by (λ (o : ℕ). eqb o q) os = subst (λ k. count_at (get nat_eq m) k
          ≡ count_by (λ (o : ℕ). eqb o q) os) (sym same) (ap (λ o. unwrap_or o 0) (are q) ∙ number_counted _) in
          ap Some (omega arith)
      by false e = are q

  counts_less : (m n : HashMap ℕ ℕ S) (os : List ℕ) (h : ℕ)
      → ((q : ℕ) → get nat_eq n q ≡ cond (nat_eq h q) (one_less (get nat_eq m h)) (get nat_eq m q)) → AreCounts m (os ++ h ∷ [])
      → AreCounts n os
  counts_less m n os h taken are q = taken q ∙ by (eqb h q) refl
    where
      was : get nat_eq m q ≡ counted (if eqb h q then suc (count_by (λ (o : ℕ). eqb o q) os) else count_by (λ (o : ℕ). eqb o q) os)
      was = are q ∙ ap counted (count_end q os h)

      by : (b : Bool) → eqb h q ≡ b → cond b (one_less (get nat_eq m h)) (get nat_eq m q) ≡ counted (count_by (λ (o : ℕ). eqb o q) os)
      by true e =
          let same : h ≡ q = grind (arith, nat_tests) in
          let here : get nat_eq m q ≡ Some (suc (count_by (λ (o : ℕ). eqb o q) os)) = rw e at was in
          subst (λ k. one_less (get nat_eq m k) ≡ counted (count_by (λ (o : ℕ). eqb o q) os)) (sym same)
          (ap one_less here ∙ ap counted (omega arith))
      by false e = rw e at was

-- ---- the two tests
apart : (r h : ℕ) → nat_lt r h ≡ not (nat_lt h (suc r))
apart r h = by (nat_lt r h) (nat_lt h (suc r)) refl refl
  where
    by : (b c : Bool) → nat_lt r h ≡ b → nat_lt h (suc r) ≡ c → b ≡ not c
    by true true e f = absurd (grind (arith, nat_tests))
    by true false e f = refl
    by false true e f = refl
    by false false e f = absurd (grind (arith, nat_tests))

pub above_last : (rs : List ℕ) (r h : ℕ) → 0 < length rs → r ≡ get_or rs (length rs - 1) r
    → nat_lt r h ≡ not (nat_lt h (floor_of 0 rs))
above_last rs r h l e = apart r h ∙ ap (λ n. not (nat_lt h n)) (sym (floor_last 0 rs r l e))

pub found_any : (rs : List ℕ) (h : ℕ) (r : Result ℕ ℕ) (b : Bool) → IsStrictlyIncreasing rs
    → IsBinarySearchResult (λ y. nat_cmp y h) rs r → b ≡ is_ok r → b ≡ list_any (λ (o : ℕ). eqb o h) rs
found_any rs h r b i s e = by b (list_any (λ (o : ℕ). eqb o h) rs) refl (found_is rs h r b i s e)
  where
    by : (b c : Bool) → list_any (λ (o : ℕ). eqb o h) rs ≡ c → IsTrue b ↔ Contains rs h → b ≡ c
    by true true f k = refl
    by false false f k = refl
    by true false f k =
        let at = k.0 refl in
        absurd (cc (list_any_at (λ (o : ℕ). eqb o h) rs at.0 h at.1 (eq-eqb (get_or rs at.0 h) h at.2)))
    by false true f k =
        let at = Any-from_list_any (λ (o : ℕ). eqb o h) rs f in
        let same : at.1 ≡ h = grind (arith, nat_tests, at.4) in
        absurd (cc (k.1 (at.0, at.2, subst (λ x. get_or rs at.0 x ≡ x) same at.3)))

-- ---- the last handle is a rising one, or another one
rising_new : (hs : List ℕ) (h : ℕ) → nat_lt h (floor_of 0 (rising_from 0 hs)) ≡ false
    → rising_from 0 (hs ++ h ∷ []) ≡ rising_from 0 hs ++ h ∷ []
rising_new hs h e = rw e at (rising_end 0 hs h)

rising_old : (hs : List ℕ) (h : ℕ) → nat_lt h (floor_of 0 (rising_from 0 hs)) ≡ true → rising_from 0 (hs ++ h ∷ []) ≡ rising_from 0 hs
rising_old hs h e = rw e at (rising_end 0 hs h)

others_new : (hs : List ℕ) (h : ℕ) → nat_lt h (floor_of 0 (rising_from 0 hs)) ≡ true
    → others_from 0 (hs ++ h ∷ []) ≡ others_from 0 hs ++ h ∷ []
others_new hs h e = rw e at (others_end 0 hs h)

others_old : (hs : List ℕ) (h : ℕ) → nat_lt h (floor_of 0 (rising_from 0 hs)) ≡ false → others_from 0 (hs ++ h ∷ []) ≡ others_from 0 hs
others_old hs h e = rw e at (others_end 0 hs h)

-- ---- how a list is kept, when a handle comes or goes at its end
others_few : (n : ℕ) (hs : List ℕ) → length (others_from n hs) ≤ length hs
others_few n [] = omega arith
others_few n (g ∷ hs) = by (nat_lt g n) (others_few n hs) (others_few (suc g) hs)
  where
    by : (b : Bool) → length (others_from n hs) ≤ length hs → length (others_from (suc g) hs) ≤ length hs
        → length (if b then g ∷ others_from n hs else others_from (suc g) hs) ≤ suc (length hs)
    by true l m = omega arith
    by false l m = omega arith

module _ {S : Type 0} where
  pub kept_few : (rs : List ℕ) (m : HashMap ℕ ℕ S) (hs : List ℕ) (h : ℕ) → AreKept rs m hs → count_at (get nat_eq m) h ≤ length hs
  kept_few rs m hs h k =
      let count : count_at (get nat_eq m) h ≡ count_by (λ (o : ℕ). eqb o h) (others_from 0 hs) = ap (λ o. unwrap_or o 0) (k.others h)
      ∙ number_counted _ in
      omega (arith, count, count_by-le-length (λ (o : ℕ). eqb o h) (others_from 0 hs), others_few 0 hs)

  pub kept_any : (rs : List ℕ) (m : HashMap ℕ ℕ S) (hs : List ℕ) (h : ℕ) → AreKept rs m hs
      → list_any (λ (o : ℕ). eqb o h) hs ≡ (is_some (get nat_eq m h) || list_any (λ (o : ℕ). eqb o h) rs)
  kept_any rs m hs h k = rw (k.others h, k.rising) (any_kept 0 hs h)

  pub kept_found : (rs : List ℕ) (m : HashMap ℕ ℕ S) (hs : List ℕ) (h : ℕ) → AreKept rs m hs
      → list_any (λ (o : ℕ). eqb o h) rs ≡ true → list_any (λ (o : ℕ). eqb o h) hs ≡ true
  kept_found rs m hs h k found = kept_any rs m hs h k ∙ rw found (or_true (is_some (get nat_eq m h)))

  pub kept_rises : (rs : List ℕ) (m : HashMap ℕ ℕ S) (hs : List ℕ) → AreKept rs m hs → IsStrictlyIncreasing rs
  kept_rises rs m hs k = subst IsStrictlyIncreasing (sym k.rising) (rises 0 hs)

  pub kept_risen : (rs : List ℕ) (m : HashMap ℕ ℕ S) (hs : List ℕ) (h : ℕ) → not (nat_lt h (floor_of 0 rs)) ≡ true → AreKept rs m hs
      → AreKept (rs ++ h ∷ []) m (hs ++ h ∷ [])
  kept_risen rs m hs h a k =
      let e = not_true _ (subst (λ (us : List ℕ). not (nat_lt h (floor_of 0 us)) ≡ true) k.rising a) in
      record {
        rising = ap (λ us. us ++ h ∷ []) k.rising ∙ sym (rising_new hs h e);
        others = subst (AreCounts m) (sym (others_old hs h e)) k.others;
      }
    where
      not_true : (b : Bool) → not b ≡ true → b ≡ false
      not_true true f = absurd cc
      not_true false f = refl

  pub kept_counted : (rs : List ℕ) (m n : HashMap ℕ ℕ S) (hs : List ℕ) (h : ℕ) → not (nat_lt h (floor_of 0 rs)) ≡ false
      → ((q : ℕ) → get nat_eq n q ≡ cond (nat_eq h q) (Some (count_at (get nat_eq m) h + 1)) (get nat_eq m q)) → AreKept rs m hs
      → AreKept rs n (hs ++ h ∷ [])
  kept_counted rs m n hs h a put k =
      let e = not_false _ (subst (λ (us : List ℕ). not (nat_lt h (floor_of 0 us)) ≡ false) k.rising a) in
      record {
        rising = k.rising ∙ sym (rising_old hs h e);
        others = subst (AreCounts n) (sym (others_new hs h e)) (counts_more m n (others_from 0 hs) h put k.others);
      }
    where
      not_false : (b : Bool) → not b ≡ false → b ≡ true
      not_false true f = refl
      not_false false f = absurd cc

  -- a handle that was counted goes
  pub kept_less : (rs : List ℕ) (m n : HashMap ℕ ℕ S) (hs : List ℕ) (h : ℕ) → is_some (get nat_eq m h) ≡ true
      → ((q : ℕ) → get nat_eq n q ≡ cond (nat_eq h q) (one_less (get nat_eq m h)) (get nat_eq m q)) → AreKept rs m (hs ++ h ∷ [])
      → AreKept rs n hs
  kept_less rs m n hs h found taken k = by (nat_lt h (floor_of 0 (rising_from 0 hs))) refl
    where
      by : (c : Bool) → nat_lt h (floor_of 0 (rising_from 0 hs)) ≡ c → AreKept rs n hs
      by true e = record {
        rising = k.rising ∙ rising_old hs h e;
        others = counts_less m n (others_from 0 hs) h taken (subst (AreCounts m) (others_new hs h e) k.others);
      }
      by false e =
          let none : count_by (λ (o : ℕ). eqb o h) (others_from 0 hs) ≡ 0 = no_other 0 hs h (grind (arith, nat_tests)) in
          let gone : get nat_eq m h ≡ None = subst (AreCounts m) (others_old hs h e) k.others h ∙ ap counted none in
          let f : is_some (get nat_eq m h) ≡ false = ap is_some gone in
          absurd (cc (f, found))

  -- one that was not is the last of the rising ones
  pub kept_lower : (rs us : List ℕ) (m n : HashMap ℕ ℕ S) (hs : List ℕ) (h : ℕ) → is_some (get nat_eq m h) ≡ false
      → ((q : ℕ) → get nat_eq n q ≡ cond (nat_eq h q) (one_less (get nat_eq m h)) (get nat_eq m q)) → us ≡ take (length rs - 1) rs
      → AreKept rs m (hs ++ h ∷ []) → AreKept us n hs
  kept_lower rs us m n hs h free taken last k = by (nat_lt h (floor_of 0 (rising_from 0 hs))) refl
    where
      none : (o : Option ℕ) → is_some o ≡ false → one_less o ≡ o
      none None f = refl
      none (Some i) f = absurd cc

      stays : (q : ℕ) (b : Bool) → eqb h q ≡ b → cond b (one_less (get nat_eq m h)) (get nat_eq m q) ≡ get nat_eq m q
      stays q true e =
          let same : h ≡ q = grind (arith, nat_tests) in
          none (get nat_eq m h) free ∙ ap (λ p. get nat_eq m p) same
      stays q false e = refl

      by : (c : Bool) → nat_lt h (floor_of 0 (rising_from 0 hs)) ≡ c → AreKept us n hs
      by true e =
          let once : count_by (λ (o : ℕ). eqb o h) (others_from 0 hs ++ h ∷ []) ≡ suc (count_by (λ (o : ℕ). eqb o h) (others_from 0 hs)) =
          count_end h (others_from 0 hs) h ∙ rw (eq-eqb h h refl) refl in
          let here = subst (AreCounts m) (others_new hs h e) k.others h ∙ ap counted once in
          let f : is_some (get nat_eq m h) ≡ true = ap is_some here in
          absurd (cc (f, free))
      by false e =
          let rising : rs ≡ rising_from 0 hs ++ h ∷ [] = k.rising ∙ rising_new hs h e in
          let count : length (rising_from 0 hs ++ h ∷ []) - 1 ≡ length (rising_from 0 hs) = omega (
            arith,
            length-append (rising_from 0 hs) (h ∷ []),
          ) in
          record {
            rising = last ∙ (ap (λ (vs : List ℕ). take (length vs - 1) vs) rising
                ∙ (ap (λ i. take i (rising_from 0 hs ++ h ∷ [])) count ∙ take-append_seam (rising_from 0 hs) (h ∷ [])));
            others = λ q. taken q ∙ (stays q (eqb h q) refl ∙ subst (AreCounts m) (others_old hs h e) k.others q);
          }
