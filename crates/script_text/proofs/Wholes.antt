-- Whole numbers of windows: digits, with a `-` before them or without.
use Rattle.std.proofs.Common.{ℕ, ℤ, pos, zero, suc, ◌≡◌, ◌<◌, ◌≤◌, Bool, true, false, List, [], ◌∷◌, refl, sym, ◌∙◌, ap, subst, inl, inr, arith, leb-true, leb-false, eqb-true}
use Rattle.std.proofs.lemmas.Bool.Decides.{nat_tests}
use Rattle.std.proofs.lemmas.Int.{ints}
use Rattle.std.specs.Prelude.{codes, nat_le, ◌==◌, neg_ℤ, if◌then◌else◌}
use Rattle.plane_terms.specs.Point.{InReach}
use Rattle.text_terms.specs.Numbers.{IsSigned}
use Rattle.wkt_terms.specs.Numerals.{value_of, is_negative, signed}
use Rattle.script_text.specs.Wholes.{StandsFor, IsFor, behind_minus, is_digits, whole_of}
use Rattle.script_text.specs.declared.whole.Whole.TheVariants.{Within, Beyond}
use Rattle.script_text.proofs.Numbers.{numeral, digits_of}

-- what a whole number's text is made of
pub record AreParts (text : List ℕ) (z : ℤ) : Type 0 where
  pub digits : is_digits (behind_minus text) ≡ true
  pub value : z ≡ signed (is_negative text) (value_of (behind_minus text))

no_minus : (b : ℕ) (bs : List ℕ) → is_digits (b ∷ bs) ≡ true → (b == 45) ≡ false
no_minus b bs e = grind (arith, nat_tests)

plain_parts : (text : List ℕ) (n : ℕ) (z : ℤ) → is_digits text ≡ true → n ≡ value_of text → z ≡ pos n → AreParts text z
plain_parts [] n z e v h = absurd cc
plain_parts (b ∷ bs) n z e v h =
    let other = no_minus b bs e in
    record { digits = rw other e; value = rw other (h ∙ ap pos v) }

pub parts : (text : List ℕ) (z : ℤ) → IsSigned text z → AreParts text z
parts text z h = elim h [
  | inl k ↦ let d = digits_of text k.0 k.1 in plain_parts text k.0 z d.digits d.value k.2
  | inr k ↦
      let d = digits_of k.0 k.1 k.3 in
      subst (λ t. AreParts t z) (sym k.2) (record { digits = d.digits; value = k.4 ∙ ap (λ n. neg_ℤ (pos n)) d.value })
]

pub whole : (text : List ℕ) → is_digits (behind_minus text) ≡ true
    → IsSigned text (signed (is_negative text) (value_of (behind_minus text)))
whole [] e = absurd cc
whole (b ∷ bs) e = by (b == 45) refl e
  where
    by : (t : Bool) → (b == 45) ≡ t → is_digits (if t then bs else b ∷ bs) ≡ true
        → IsSigned (b ∷ bs) (signed t (value_of (if t then bs else b ∷ bs)))
    by true w h = inr (bs, value_of bs, ap (λ c. c ∷ bs) (eqb-true b 45 w), numeral bs h, refl)
    by false w h = inl (value_of (b ∷ bs), numeral (b ∷ bs) h, refl)

near : (negative : Bool) (n : ℕ) → n ≤ 4194304 → InReach (signed negative n)
near true zero h = record { low = omega (arith, ints); high = omega (arith, ints) }
near true (suc n) h = record { low = omega (arith, ints); high = omega (arith, ints) }
near false n h = record { low = omega (arith, ints); high = omega (arith, ints) }

far : (negative : Bool) (n : ℕ) → 4194304 < n → InReach (signed negative n) → ⊥
far true zero h i = omega arith
far true (suc n) h i = omega (arith, ints, i.low)
far false n h i = omega (arith, ints, i.high)

stands : (negative : Bool) (n : ℕ) → StandsFor (whole_of negative n) (signed negative n)
stands negative n = by (nat_le n 4194304) refl
  where
    by : (t : Bool) → nat_le n 4194304 ≡ t → StandsFor (if t then Within (signed negative n) else Beyond) (signed negative n)
    by true w = (refl, near negative n (leb-true n 4194304 w))
    by false w = far negative n (leb-false n 4194304 w)

pub read : (text : List ℕ) → is_digits (behind_minus text) ≡ true → IsFor (whole_of (is_negative text) (value_of (behind_minus text))) text
read text e =
    (signed (is_negative text) (value_of (behind_minus text)), whole text e, stands (is_negative text) (value_of (behind_minus text)))

-- a text writes one whole number at most
pub one_signed : (text : List ℕ) (y z : ℤ) → IsSigned text y → IsSigned text z → y ≡ z
one_signed text y z p q = (parts text y p).value ∙ sym (parts text z q).value

pub unread : (text : List ℕ) (z : ℤ) → is_digits (behind_minus text) ≡ false → IsSigned text z → ⊥
unread text z e h = let d = (parts text z h).digits in cc

-- the word `all` is no number
pub all_is_none : (z : ℤ) → IsSigned (codes "all") z → ⊥
all_is_none z h = let d = (parts (codes "all") z h).digits in cc
