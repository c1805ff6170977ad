-- A numeral of digits alone, read in one pass.
--
-- short            the digits at the front of a text are its numeral where no number byte follows them
-- plain, minus     what such digits mean, with no sign and behind a minus sign
use Rattle.std.proofs.Common.{ℕ, ℤ, ◌≡◌, ◌≢◌, ◌<◌, ◌≤◌, ◌-◌, Bool, true, false, List, [], ◌∷◌, length, get_or, take, drop, refl, sym, ap, ◌∙◌, cond, arith}
use Rattle.std.proofs.Math.Seq.{take-length}
use Rattle.text_terms.specs.Fields.{is_digit}
use Rattle.text_terms.specs.Numbers.{value_from}
use Rattle.wkt_terms.specs.Numerals.{Whole, value_of, signed, within_reach, number_of}
use Rattle.wkt_terms.specs.Runs.{is_number_byte, front_of, behind}
use Rattle.text_fields.specs.Numbers.{has_number_byte, IsShort}
use Rattle.text_fields.proofs.Fronts.{all_of_front}
use Rattle.text_fields.proofs.Printed.{in_reach, number_of_digits, digits_number}

digit_is : (b : ℕ) → is_digit b ≡ true → is_number_byte b ≡ true
digit_is b h = rw h refl

no_digit : (b : ℕ) → is_number_byte b ≡ false → is_digit b ≡ false
no_digit b h = at (is_digit b) refl
  where
    at : (x : Bool) → is_digit b ≡ x → x ≡ false
    at true e = absurd (cc (digit_is b e))
    at false e = refl

-- what is left after digits, where no number byte comes next
stops : (rest : List ℕ) → has_number_byte rest ≡ false → (front_of is_digit rest ≡ []) × (behind is_digit rest ≡ rest)
stops [] h = (refl, refl)
stops (b ∷ rest) h = let e = no_digit b h in (rw e refl, rw e refl)

-- a run of digits with no number byte behind it is a run of number bytes
same_run : (ds : List ℕ) → has_number_byte (behind is_digit ds) ≡ false
    → (front_of is_number_byte ds ≡ front_of is_digit ds) × (behind is_number_byte ds ≡ behind is_digit ds)
same_run [] h = (refl, refl)
same_run (d ∷ ds) h = at (is_digit d) refl h (λ k. same_run ds k)
  where
    at : (x : Bool) → is_digit d ≡ x → has_number_byte (cond x (behind is_digit ds) (d ∷ ds)) ≡ false
        → (has_number_byte (behind is_digit ds) ≡ false
        → (front_of is_number_byte ds ≡ front_of is_digit ds) × (behind is_number_byte ds ≡ behind is_digit ds))
        → (front_of is_number_byte (d ∷ ds) ≡ cond x (d ∷ front_of is_digit ds) [])
        × (behind is_number_byte (d ∷ ds) ≡ cond x (behind is_digit ds) (d ∷ ds))
    at true e k more = let m = more k in rw (digit_is d e) (ap (λ t. d ∷ t) m.0, m.1)
    at false e k more = (rw k refl, rw k refl)

-- where nothing was taken, all is left
all_left : (ds : List ℕ) → front_of is_digit ds ≡ [] → behind is_digit ds ≡ ds
all_left [] h = refl
all_left (d ∷ ds) h = at (is_digit d) h
  where
    at : (x : Bool) → cond x (d ∷ front_of is_digit ds) [] ≡ [] → cond x (behind is_digit ds) (d ∷ ds) ≡ d ∷ ds
    at true k = absurd cc
    at false k = refl

pub short : (negative : Bool) (ds rest : List ℕ) (n : ℕ) (z : ℤ)
    → value_from n (front_of is_digit rest) ≡ value_of (front_of is_digit ds) → behind is_digit rest ≡ behind is_digit ds
    → has_number_byte rest ≡ false → length rest ≢ length ds → n ≤ 4194304 → z ≡ signed negative n → IsShort negative ds z rest
short negative ds rest n z value left ends some within is =
    let s = stops rest ends in
    let e : behind is_digit ds ≡ rest = sym left ∙ s.1 in
    let m = same_run ds (ap has_number_byte e ∙ ends) in
    let v : value_of (front_of is_digit ds) ≡ n = sym value ∙ ap (value_from n) s.0 in
    record {
      some = λ h. some (ap length (sym e ∙ all_left ds h));
      all = m.0;
      value = ap (within_reach negative) v ∙ (in_reach negative n within ∙ ap Whole (sym is));
      left = sym e ∙ sym m.1;
    }

some_length : (xs : List ℕ) → xs ≢ [] → 0 < length xs
some_length [] h = absurd (h refl)
some_length (x ∷ xs) h = omega arith

abbrev Whole_at : List ℕ → ℤ → List ℕ → Type 0
Whole_at text z rest = (number_of (front_of is_number_byte text) ≡ Whole z) × (rest ≡ behind is_number_byte text)

pub plain : (text : List ℕ) (z : ℤ) (rest : List ℕ) → IsShort false text z rest → Whole_at text z rest
plain text z rest h = (
  ap number_of h.all
      ∙ (number_of_digits (front_of is_digit text) (all_of_front is_digit text) (some_length (front_of is_digit text) h.some) ∙ h.value),
  h.left,
)

first_is : (text : List ℕ) → 1 ≤ length text → get_or text 0 0 ≡ 45 → text ≡ 45 ∷ take (length text - 1) (drop 1 text)
first_is [] h e = absurd (omega arith)
first_is (b ∷ bs) h e = let n : length (b ∷ bs) - 1 ≡ length bs = omega arith in rw (n, take-length bs) (ap (λ x. x ∷ bs) e)

behind_minus : (text digits : List ℕ) (z : ℤ) (rest : List ℕ) → text ≡ 45 ∷ digits → IsShort true digits z rest → Whole_at text z rest
behind_minus text digits z rest e h =
    rw e (
      ap (λ t. number_of (45 ∷ t)) h.all
          ∙ (digits_number true (front_of is_digit digits) (all_of_front is_digit digits) (some_length (front_of is_digit digits) h.some) ∙ h.value),
      h.left,
    )

pub minus : (text : List ℕ) (z : ℤ) (rest : List ℕ) → 1 ≤ length text → get_or text 0 0 ≡ 45
    → IsShort true (take (length text - 1) (drop 1 text)) z rest → Whole_at text z rest
minus text z rest some e h = behind_minus text (take (length text - 1) (drop 1 text)) z rest (first_is text some e) h
