-- A whole number within the reach, as it is written, means that number.
use Rattle.std.proofs.Common.{ℕ, ℤ, pos, negsuc, suc, ◌≡◌, ◌<◌, ◌≤◌, ◌+◌, ◌*◌, ◌^◌, Bool, true, false, ◌&&◌, List, [], ◌∷◌, length, refl, ap, ◌∙◌, append-nil, arith, rules, ltb, leb}
use Rattle.std.proofs.lemmas.Bool.Decides.{nat_tests}
use Rattle.std.proofs.lemmas.Fmt.{digits_decimal, digits_value-decimal, decimal_nonempty}
use Rattle.std.proofs.lemmas.Int.{ints}
use Rattle.std.proofs.lemmas.Str.Parse.{IsNumeralModel, numerals_by_fold}
use Rattle.std.specs.List.{list_all}
use Rattle.std.specs.Fmt.{decimal, signed_decimal}
use Rattle.plane_terms.specs.Point.{InReach}
use Rattle.text_terms.specs.Fields.{is_blank, is_letter, is_digit}
use Rattle.text_terms.specs.Numbers.{value_from}
use Rattle.wkt_terms.specs.Numerals.{Whole, value_of, unsigned, is_negative, signed, within_reach, number_of, number_in}
use Rattle.wkt_terms.specs.Runs.{is_number_byte, front_of, behind}
use Rattle.text_fields.proofs.Fronts.{front_whole}

-- std's laws of decimals, for the definitions of this repository
pub own : IsNumeralModel (λ ds. list_all is_digit ds ≡ true) (value_from 0)
own = numerals_by_fold _ (search rules) value_from (search rules)

whole_run : (p : ℕ → Bool) (xs : List ℕ) → list_all p xs ≡ true → (front_of p xs ≡ xs) × (behind p xs ≡ [])
whole_run p xs h = rw (append-nil xs) at (front_whole p xs [] h tt)

no_fraction : (negative : Bool) (d : ℕ) (ds : List ℕ) → number_in negative (d ∷ ds) [] ≡ within_reach negative (value_of (d ∷ ds))
no_fraction negative d ds =
    let k : ltb 1 (2 * length (d ∷ ds) + length {A = ℕ} []) ≡ true = grind (arith, nat_tests) in
    rw k refl

pub digits_number : (negative : Bool) (ds : List ℕ) → list_all is_digit ds ≡ true → 0 < length ds
    → number_in negative (front_of is_digit ds) (behind is_digit ds) ≡ within_reach negative (value_of ds)
digits_number negative [] h some = absurd (omega arith)
digits_number negative (d ∷ ds) h some =
    let w = whole_run is_digit (d ∷ ds) h in
    ap (λ t. number_in negative t (behind is_digit (d ∷ ds))) w.0
    ∙ (ap (λ t. number_in negative (d ∷ ds) t) w.1 ∙ no_fraction negative d ds)

unsign : (ds : List ℕ) → list_all is_digit ds ≡ true → (unsigned ds ≡ ds) × (is_negative ds ≡ false)
unsign [] h = (refl, refl)
unsign (d ∷ ds) h = (grind (arith, nat_tests), grind (arith, nat_tests))

pub number_of_digits : (ds : List ℕ) → list_all is_digit ds ≡ true → 0 < length ds → number_of ds ≡ within_reach false (value_of ds)
number_of_digits ds h some =
    let u = unsign ds h in
    rw (u.0, u.1) (digits_number false ds h some)

pub in_reach : (negative : Bool) (n : ℕ) → n ≤ 4194304 → within_reach negative n ≡ Whole (signed negative n)
in_reach negative n le = let k : leb n 4194304 ≡ true = grind (arith, nat_tests) in rw k refl

pub printed : (z : ℤ) → InReach z → number_of (signed_decimal z) ≡ Whole z
printed (pos n) h =
    let le : n ≤ 4194304 = omega (arith, ints, h.high) in
    let wide : n < 2 ^ 64 = omega arith in
    number_of_digits (decimal n) (digits_decimal own n wide) (decimal_nonempty n wide)
    ∙ (ap (within_reach false) (digits_value-decimal own n wide) ∙ in_reach false n le)
printed (negsuc n) h =
    let le : suc n ≤ 4194304 = omega (arith, ints, h.low) in
    let wide : suc n < 2 ^ 64 = omega arith in
    digits_number true (decimal (suc n)) (digits_decimal own (suc n) wide) (decimal_nonempty (suc n) wide)
    ∙ (ap (within_reach true) (digits_value-decimal own (suc n) wide) ∙ in_reach true (suc n) le)

-- ---- what is written of a number is one run of number bytes

digits_are : (ds : List ℕ) → list_all is_digit ds ≡ true → list_all is_number_byte ds ≡ true
digits_are [] h = refl
digits_are (d ∷ ds) h = at (is_digit d) refl h (λ k. digits_are ds k)
  where
    at : (y : Bool) → is_digit d ≡ y → (y && list_all is_digit ds) ≡ true
        → (list_all is_digit ds ≡ true → list_all is_number_byte ds ≡ true) → list_all is_number_byte (d ∷ ds) ≡ true
    at true e k more = rw (e, more k) refl
    at false e k more = absurd cc

pub record IsNumberText (text : List ℕ) : Type 0 where
  pub all : list_all is_number_byte text ≡ true
  pub some : 0 < length text

pub number_text : (z : ℤ) → InReach z → IsNumberText (signed_decimal z)
number_text (pos n) h = let wide : n < 2 ^ 64 = omega (arith, ints, h.high) in
    record { all = digits_are (decimal n) (digits_decimal own n wide); some = decimal_nonempty n wide }
number_text (negsuc n) h = let wide : suc n < 2 ^ 64 = omega (arith, ints, h.low) in
    record { all = digits_are (decimal (suc n)) (digits_decimal own (suc n) wide); some = omega arith }

pub number_byte : (b : ℕ) → is_number_byte b ≡ true → (is_blank b ≡ false) × (is_letter b ≡ false)
number_byte b h = (grind (arith, nat_tests), grind (arith, nat_tests))
