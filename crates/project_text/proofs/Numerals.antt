-- Numbers are written in one way: what is written of a number is read as it, and what is read as it is what is written.
use Rattle.std.proofs.Common.{ℕ, ℤ, pos, negsuc, suc, zero, ◌≡◌, ◌≢◌, ◌<◌, ◌≤◌, ◌^◌, ◌==◌, Bool, true, false, ◌&&◌, ◌||◌, nat_le, List, [], ◌∷◌, length, get_or, Some, None, if◌then◌else◌, refl, sym, ap, subst, ◌∙◌, arith}
use Rattle.std.specs.Prelude.{neg_ℤ, unsigned_abs}
use Rattle.std.specs.List.{list_all}
use Rattle.std.specs.Fmt.{decimal, signed_decimal}
use Rattle.std.proofs.lemmas.Bool.{or_right}
use Rattle.std.proofs.lemmas.Bool.Decides.{nat_tests}
use Rattle.std.proofs.lemmas.Fmt.{digits_decimal, digits_value-decimal, decimal_digit, first_decimal, decimal-digits_value}
use Rattle.text_terms.specs.Fields.{is_digit}
use Rattle.wkt_terms.specs.Numerals.{value_of}
use Rattle.text_fields.proofs.Printed.{own}
use Rattle.project_terms.specs.Lines.{number, positive, negative, spelled, is_positive, is_nought, counted}

-- ---- what is written is read
digits_positive : (ds : List ℕ) → list_all is_digit ds ≡ true → 48 < get_or ds 0 0 → is_positive ds ≡ true
digits_positive [] h l = absurd (omega arith)
digits_positive (d ∷ ds) h l = by (is_digit d) refl h
  where
    by : (y : Bool) → is_digit d ≡ y → (y && list_all is_digit ds) ≡ true → ((nat_le 49 d && nat_le d 57) && list_all is_digit ds) ≡ true
    by true e k = let first : (nat_le 49 d && nat_le d 57) ≡ true = grind (arith, nat_tests) in rw first k
    by false e k = absurd cc

decimal_positive : (n : ℕ) → 0 < n → n < 2 ^ 64 → is_positive (decimal n) ≡ true
decimal_positive n some wide = digits_positive (decimal n) (digits_decimal own n wide) (first_decimal n some wide)

counted_value : (ds : List ℕ) (n : ℕ) → value_of ds ≡ n → n ≤ 1125899906842624 → counted ds ≡ n
counted_value ds n e l = let k : nat_le (value_of ds) 1125899906842624 ≡ true = grind (arith, nat_tests) in rw k e

counted_decimal : (n : ℕ) → n ≤ 1125899906842624 → counted (decimal n) ≡ n
counted_decimal n l = let wide : n < 2 ^ 64 = omega arith in counted_value (decimal n) n (digits_value-decimal own n wide) l

digits_read : (ds : List ℕ) (n : ℕ) → list_all is_digit ds ≡ true → spelled ds ≡ true → counted ds ≡ n → number ds ≡ Some (pos n)
digits_read [] n h s c = absurd cc
digits_read (d ∷ ds) n h s c =
    let plain : (d == 45) ≡ false = grind (arith, nat_tests) in
    rw (plain, s) (ap (λ k. Some (pos k)) c)

pub natural_read : (n : ℕ) → n ≤ 1125899906842624 → number (decimal n) ≡ Some (pos n)
natural_read zero l = rw (decimal_digit 0 (omega arith)) refl
natural_read (suc n) l =
    let wide : suc n < 2 ^ 64 = omega arith in
    let some : 0 < suc n = omega arith in
    digits_read (decimal (suc n)) (suc n) (digits_decimal own (suc n) wide)
    (or_right (is_nought (decimal (suc n))) (is_positive (decimal (suc n))) (decimal_positive (suc n) some wide))
    (counted_decimal (suc n) l)

pub signed_read : (z : ℤ) → unsigned_abs z ≤ 1125899906842624 → number (signed_decimal z) ≡ Some z
signed_read (pos n) l = natural_read n l
signed_read (negsuc n) l =
    let wide : suc n < 2 ^ 64 = omega arith in
    let some : 0 < suc n = omega arith in
    rw (decimal_positive (suc n) some wide, counted_decimal (suc n) l) refl

-- ---- what is read is written
positive_some : (ds : List ℕ) → is_positive ds ≡ true → 0 < length ds
positive_some [] h = absurd cc
positive_some (d ∷ ds) h = omega arith

positive_first : (ds : List ℕ) → is_positive ds ≡ true → get_or ds 0 0 ≢ 48
positive_first [] h e = absurd cc
positive_first (d ∷ ds) h e = grind (arith, nat_tests)

positive_digits : (ds : List ℕ) → is_positive ds ≡ true → list_all is_digit ds ≡ true
positive_digits [] h = absurd cc
positive_digits (d ∷ ds) h = by (nat_le 49 d && nat_le d 57) refl h
  where
    by : (y : Bool) → (nat_le 49 d && nat_le d 57) ≡ y → (y && list_all is_digit ds) ≡ true → (is_digit d && list_all is_digit ds) ≡ true
    by true e k = let first : is_digit d ≡ true = grind (arith, nat_tests) in rw first k
    by false e k = absurd cc

decimal_of : (ds : List ℕ) (n : ℕ) → is_positive ds ≡ true → value_of ds ≡ n → n < 2 ^ 64 → decimal n ≡ ds
decimal_of ds n h v wide =
    rw (← v) (decimal-digits_value own ds (positive_digits ds h) (positive_some ds h) (λ e. absurd (positive_first ds h e))
    (omega (arith, v, wide)))

counted_less : (ds : List ℕ) (n : ℕ) → counted ds ≡ n → n < 1125899906842624 → value_of ds ≡ n
counted_less ds n e l = by (nat_le (value_of ds) 1125899906842624) refl e
  where
    by : (y : Bool) → nat_le (value_of ds) 1125899906842624 ≡ y → (if y then value_of ds else 1125899906842624) ≡ n → value_of ds ≡ n
    by true k f = f
    by false k f = absurd (omega arith)

some_is : (b : Bool) (x z : ℤ) → (if b then Some x else None) ≡ Some z → (b ≡ true) × (x ≡ z)
some_is true x z e = (refl, cc)
some_is false x z e = absurd cc

positive_written : (ds : List ℕ) (z : ℤ) → is_positive ds ≡ true → pos (counted ds) ≡ z → unsigned_abs z < 1125899906842624
    → signed_decimal z ≡ ds
positive_written ds (pos n) h e l =
    let c : counted ds ≡ n = cc in
    decimal_of ds n h (counted_less ds n c l) (omega arith)
positive_written ds (negsuc n) h e l = absurd cc

nought_written : (ds : List ℕ) (z : ℤ) → is_nought ds ≡ true → pos (counted ds) ≡ z → signed_decimal z ≡ ds
nought_written [] z h e = absurd cc
nought_written (d ∷ []) z h e =
    let first : d ≡ 48 = grind (arith, nat_tests) in
    subst (λ (x : ℕ). pos (counted (x ∷ [])) ≡ z → signed_decimal z ≡ x ∷ []) (sym first)
    (λ k. ap signed_decimal (sym k) ∙ decimal_digit 0 (omega arith)) e
nought_written (d ∷ c ∷ ds) z h e = absurd cc

negative_written : (ds : List ℕ) (z : ℤ) → is_positive ds ≡ true → neg_ℤ (pos (counted ds)) ≡ z → unsigned_abs z < 1125899906842624
    → signed_decimal z ≡ 45 ∷ ds
negative_written ds z h e l = by (counted ds) refl e
  where
    by : (n : ℕ) → counted ds ≡ n → neg_ℤ (pos n) ≡ z → signed_decimal z ≡ 45 ∷ ds
    by zero c k =
        let nought = decimal_of ds 0 h (counted_less ds 0 c (omega arith)) (omega arith) in
        let same : 48 ∷ [] ≡ ds = sym (decimal_digit 0 (omega arith)) ∙ nought in
        let p : is_positive (48 ∷ []) ≡ true = subst (λ (x : List ℕ). is_positive x ≡ true) (sym same) h in
        absurd cc
    by (suc n) c k =
        let small : suc n < 1125899906842624 =
        (let s : unsigned_abs (neg_ℤ (pos (suc n))) < 1125899906842624 =
        subst (λ (x : ℤ). unsigned_abs x < 1125899906842624) (sym k) l in s) in
        ap signed_decimal (sym k) ∙ ap (λ t. 45 ∷ t) (decimal_of ds (suc n) h (counted_less ds (suc n) c small) (omega arith))

pub number_written : (f : List ℕ) (z : ℤ) → number f ≡ Some z → unsigned_abs z < 1125899906842624 → signed_decimal z ≡ f
number_written [] z e l = absurd cc
number_written (b ∷ bs) z e l = by (b == 45) refl e
  where
    by : (y : Bool) → (b == 45) ≡ y → (if y then negative bs else positive (b ∷ bs)) ≡ Some z → signed_decimal z ≡ b ∷ bs
    by true k m =
        let minus : b ≡ 45 = grind (arith, nat_tests) in
        let s = some_is (is_positive bs) (neg_ℤ (pos (counted bs))) z m in
        negative_written bs z s.0 s.1 l ∙ ap (λ x. x ∷ bs) (sym minus)
    by false k m =
        let s = some_is (spelled (b ∷ bs)) (pos (counted (b ∷ bs))) z m in
        either (is_nought (b ∷ bs)) (is_positive (b ∷ bs)) refl refl s.0 s.1
      where
        either : (o p : Bool) → is_nought (b ∷ bs) ≡ o → is_positive (b ∷ bs) ≡ p → (o || p) ≡ true → pos (counted (b ∷ bs)) ≡ z
            → signed_decimal z ≡ b ∷ bs
        either true p i j t v = nought_written (b ∷ bs) z i v
        either false true i j t v = positive_written (b ∷ bs) z j v l
        either false false i j t v = absurd cc
