-- Digits, and the number that they write.
use Rattle.std.proofs.Common.{ℕ, ◌≡◌, ◌<◌, ◌≤◌, true, false, List, [], ◌∷◌, refl, sym, ◌∙◌, subst, arith, Some, None, leb-true, leb-false}
use Rattle.std.proofs.lemmas.Bool.Decides.{nat_tests}
use Rattle.std.specs.Prelude.{nat_le, Bool, if◌then◌else◌}
use Rattle.text_terms.specs.Numbers.{IsNumeral, IsWithinText}
use Rattle.wkt_terms.specs.Numerals.{value_of}
use Rattle.script_text.specs.Wholes.{is_digits}

-- what a numeral is made of
pub record AreDigits (text : List ℕ) (n : ℕ) : Type 0 where
  pub digits : is_digits text ≡ true
  pub value : n ≡ value_of text

pub digits_of : (text : List ℕ) (n : ℕ) → IsNumeral text n → AreDigits text n
digits_of [] n h = absurd (h.some refl)
digits_of (b ∷ bs) n h = record { digits = grind (arith, nat_tests, h.digits); value = sym h.value }

pub numeral : (text : List ℕ) → is_digits text ≡ true → IsNumeral text (value_of text)
numeral [] e = absurd cc
numeral (b ∷ bs) e = record { some = λ q. cc; digits = grind (arith, nat_tests); value = refl }

pub read : (field : List ℕ) (low high : ℕ) → is_digits field ≡ true → low ≤ value_of field → value_of field ≤ high
    → IsWithinText low high field (value_of field)
read field low high e least most = record { numeral = numeral field e; at_least = least; at_most = most }

pub one_number : (field : List ℕ) (low high m n : ℕ) → IsWithinText low high field m → IsWithinText low high field n → m ≡ n
one_number field low high m n p q = (digits_of field m p.numeral).value ∙ sym (digits_of field n q.numeral).value

pub not_digits : (field : List ℕ) (low high n : ℕ) → is_digits field ≡ false → IsWithinText low high field n → ⊥
not_digits field low high n e h = let d = (digits_of field n h.numeral).digits in cc

pub too_high : (field : List ℕ) (low high n : ℕ) → None ≡ (if nat_le (value_of field) high then Some (value_of field) else None)
    → IsWithinText low high field n → ⊥
too_high field low high n e h = by (nat_le (value_of field) high) refl e
  where
    by : (t : Bool) → nat_le (value_of field) high ≡ t → None ≡ (if t then Some (value_of field) else None) → ⊥
    by true w k = cc
    by false w k = let v = (digits_of field n h.numeral).value in omega (arith, leb-false (value_of field) high w, h.at_most)

pub too_low : (field : List ℕ) (low high m n : ℕ) → Some m ≡ (if nat_le (value_of field) high then Some (value_of field) else None)
    → m < low → IsWithinText low high field n → ⊥
too_low field low high m n e less h = by (nat_le (value_of field) high) refl e
  where
    by : (t : Bool) → nat_le (value_of field) high ≡ t → Some m ≡ (if t then Some (value_of field) else None) → ⊥
    by true w k =
        let v = (digits_of field n h.numeral).value in
        let same : m ≡ value_of field = cc in
        omega (arith, h.at_least)
    by false w k = cc

pub within : (field : List ℕ) (low high m : ℕ) → is_digits field ≡ true
    → Some m ≡ (if nat_le (value_of field) high then Some (value_of field) else None) → low ≤ m → IsWithinText low high field m
within field low high m digits e least = by (nat_le (value_of field) high) refl e
  where
    by : (t : Bool) → nat_le (value_of field) high ≡ t → Some m ≡ (if t then Some (value_of field) else None)
        → IsWithinText low high field m
    by true w k =
        let same : value_of field ≡ m = cc in
        subst (IsWithinText low high field) same (read field low high digits (omega arith) (leb-true (value_of field) high w))
    by false w k = cc
