-- Where the first colon of a text stands.
--
-- no_colon text       no colon is in the text; none is in a name
-- colon_found         a text without a colon has none between two parts
-- one_cut             a text is cut at its first colon in one way
use Rattle.std.proofs.Common.{ℕ, ◌≡◌, ◌==◌, Bool, true, false, not, ◌&&◌, List, [], ◌∷◌, ◌++◌, refl, ap, ◌∙◌, arith}
use Rattle.std.specs.List.{list_all}
use Rattle.std.proofs.lemmas.Bool.Decides.{nat_tests}
use Rattle.text_terms.specs.Fields.{is_letter, is_name_byte, is_name}

abbrev pub no_colon : List ℕ → Bool
no_colon text = list_all (λ b. not (b == 58)) text

letter_no_colon : (b : ℕ) → is_letter b ≡ true → not (b == 58) ≡ true
letter_no_colon b e = grind (arith, nat_tests)

byte_no_colon : (b : ℕ) → is_name_byte b ≡ true → not (b == 58) ≡ true
byte_no_colon b e = grind (arith, nat_tests)

and_left : (a b : Bool) → (a && b) ≡ true → a ≡ true
and_left true b e = refl
and_left false b e = absurd cc

and_right : (a b : Bool) → (a && b) ≡ true → b ≡ true
and_right true b e = e
and_right false b e = absurd cc

both : (a b : Bool) → a ≡ true → b ≡ true → (a && b) ≡ true
both true b e f = f
both false b e f = absurd cc

bytes_no_colon : (bs : List ℕ) → list_all is_name_byte bs ≡ true → no_colon bs ≡ true
bytes_no_colon [] e = refl
bytes_no_colon (b ∷ bs) e =
    both _ _ (byte_no_colon b (and_left _ _ e)) (bytes_no_colon bs (and_right (is_name_byte b) (list_all is_name_byte bs) e))

pub name_no_colon : (n : List ℕ) → is_name n ≡ true → no_colon n ≡ true
name_no_colon [] e = absurd cc
name_no_colon (b ∷ bs) e =
    both _ _ (letter_no_colon b (and_left _ _ e)) (bytes_no_colon bs (and_right _ (list_all is_name_byte bs) (and_right (is_letter b) _ e)))

-- no colon is before the first
pub colon_found : (n digits : List ℕ) → no_colon (n ++ 58 ∷ digits) ≡ true → ⊥
colon_found [] digits e = cc
colon_found (b ∷ n) digits e = colon_found n digits (and_right (not (b == 58)) (no_colon (n ++ 58 ∷ digits)) e)

pub record OneCut (n m d e : List ℕ) : Type 0 where
  pub name : n ≡ m
  pub digits : d ≡ e

pub one_cut : (n m d e : List ℕ) → no_colon n ≡ true → no_colon m ≡ true → n ++ 58 ∷ d ≡ m ++ 58 ∷ e → OneCut n m d e
one_cut [] [] d e p q h = record { name = refl; digits = cc }
one_cut [] (c ∷ m) d e p q h = absurd (let same : c ≡ 58 = cc in let k = rw same at q in cc)
one_cut (b ∷ n) [] d e p q h = absurd (let same : b ≡ 58 = cc in let k = rw same at p in cc)
one_cut (b ∷ n) (c ∷ m) d e p q h =
    let first : b ≡ c = cc in
    let i = one_cut n m d e (and_right (not (b == 58)) (no_colon n) p) (and_right (not (c == 58)) (no_colon m) q) cc in
    record { name = ap (λ x. x ∷ n) first ∙ ap (λ x. c ∷ x) i.name; digits = i.digits }
