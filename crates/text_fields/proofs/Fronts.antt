-- A run of bytes, one byte at a time; and the value of digits.
use Rattle.std.proofs.Common.{ℕ, suc, ◌≡◌, ◌<◌, ◌≤◌, ◌+◌, ◌-◌, ◌*◌, Bool, true, false, List, [], ◌∷◌, ◌++◌, length, get_or, take, drop, refl, ap, ◌&&◌, append_assoc, add-one, arith, rules, IsTrue, cond}
use Rattle.std.specs.List.{list_all}
use Rattle.std.proofs.Math.Seq.{drop-cons, take-suc}
use Rattle.text_terms.specs.Fields.{is_blank, front_field, behind_field}
use Rattle.text_terms.specs.Numbers.{value_from}
use Rattle.wkt_terms.specs.Runs.{front_of, behind}

pub front_goes_on : (p : ℕ → Bool) (text : List ℕ) (i : ℕ) → i < length text → p (get_or text i 0) ≡ true
    → take i text ++ front_of p (drop i text) ≡ take (i + 1) text ++ front_of p (drop (i + 1) text)
front_goes_on p text i below is =
    rw (add-one, drop-cons text i 0 below, take-suc text i 0 below) (over (take i text) (get_or text i 0) (drop (suc i) text) is)
  where
    over : (before : List ℕ) (b : ℕ) (bs : List ℕ) → p b ≡ true → before ++ front_of p (b ∷ bs) ≡ (before ++ b ∷ []) ++ front_of p bs
    over before b bs is = rw (is, append_assoc before (b ∷ []) (front_of p bs)) refl

pub behind_goes_on : (p : ℕ → Bool) (text : List ℕ) (i : ℕ) → i < length text → p (get_or text i 0) ≡ true
    → behind p (drop i text) ≡ behind p (drop (i + 1) text)
behind_goes_on p text i below is = rw (add-one, drop-cons text i 0 below, is) refl

pub front_stops : (p : ℕ → Bool) (text : List ℕ) (i : ℕ) → i < length text → p (get_or text i 0) ≡ false → front_of p (drop i text) ≡ []
front_stops p text i below other = rw (drop-cons text i 0 below, other) refl

pub behind_stops : (p : ℕ → Bool) (text : List ℕ) (i : ℕ) → i < length text → p (get_or text i 0) ≡ false
    → behind p (drop i text) ≡ drop i text
behind_stops p text i below other = rw (drop-cons text i 0 below, other) refl

pub value_grows : (n : ℕ) (ds : List ℕ) → n ≤ value_from n ds
value_grows n [] = omega arith
value_grows n (d ∷ ds) = omega (arith, value_grows (n * 10 + (d - 48)) ds)

pub value_goes_on : (n : ℕ) (text : List ℕ) (i : ℕ) → i < length text
    → value_from n (drop i text) ≡ value_from (n * 10 + (get_or text i 0 - 48)) (drop (i + 1) text)
value_goes_on n text i below = rw (add-one, drop-cons text i 0 below) refl

pub all_of_front : (p : ℕ → Bool) (text : List ℕ) → list_all p (front_of p text) ≡ true
all_of_front p [] = refl
all_of_front p (b ∷ bs) = at (p b) refl (all_of_front p bs)
  where
    at : (x : Bool) → p b ≡ x → list_all p (front_of p bs) ≡ true → list_all p (cond x (b ∷ front_of p bs) []) ≡ true
    at true e h = rw (e, h) refl
    at false e h = refl

pub front_has : (p : ℕ → Bool) (text : List ℕ) → IsTrue (list_all p (front_of p text))
front_has p text = rw (all_of_front p text) (search rules)

-- a run is never longer than its text
pub behind-le : (p : ℕ → Bool) (bs : List ℕ) → length (behind p bs) ≤ length bs
behind-le p [] = omega arith
behind-le p (b ∷ bs) = at (p b) (behind-le p bs)
  where
    at : (x : Bool) → length (behind p bs) ≤ length bs → length (cond x (behind p bs) (b ∷ bs)) ≤ length (b ∷ bs)
    at true h = omega arith
    at false h = omega arith

-- the text does not go on with a byte of the class
abbrev pub Stops : (ℕ → Bool) → List ℕ → Type 0
Stops p [] = Unit {0}
Stops p (b ∷ bs) = p b ≡ false

-- bytes of a class, and then none of it, are the run
pub front_whole : (p : ℕ → Bool) (xs rest : List ℕ) → list_all p xs ≡ true → Stops p rest
    → (front_of p (xs ++ rest) ≡ xs) × (behind p (xs ++ rest) ≡ rest)
front_whole p [] [] h s = (refl, refl)
front_whole p [] (b ∷ rest) h s = (rw s refl, rw s refl)
front_whole p (x ∷ xs) rest h s = at (p x) refl h (λ k. front_whole p xs rest k s)
  where
    at : (y : Bool) → p x ≡ y → (y && list_all p xs) ≡ true
        → (list_all p xs ≡ true → (front_of p (xs ++ rest) ≡ xs) × (behind p (xs ++ rest) ≡ rest))
        → (front_of p ((x ∷ xs) ++ rest) ≡ x ∷ xs) × (behind p ((x ∷ xs) ++ rest) ≡ rest)
    at true e k more = let m = more k in (rw e (ap (λ t. x ∷ t) m.0), rw e m.1)
    at false e k more = absurd cc

-- a text that has nothing before its first blank
pub behind_end : (text : List ℕ) → front_field text ≡ [] → behind_field text ≡ text
behind_end [] e = refl
behind_end (b ∷ bs) e = at (is_blank b) e
  where
    at : (x : Bool) → cond x [] (b ∷ front_field bs) ≡ [] → cond x (b ∷ bs) (behind_field bs) ≡ b ∷ bs
    at true k = refl
    at false k = absurd cc
