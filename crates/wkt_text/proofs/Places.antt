-- A position at the front of a text.
use Rattle.std.proofs.Common.{ℕ, ℤ, ◌≡◌, Bool, true, false, List, [], ◌∷◌, refl, sym, ap, ◌∙◌, subst, cond}
use Rattle.plane_terms.specs.Point.{Place}
use Rattle.text_terms.specs.Fields.{skip_blanks}
use Rattle.wkt_terms.specs.Grammar.{position}
use Rattle.wkt_terms.specs.Numerals.{Whole, number_of}
use Rattle.wkt_terms.specs.Runs.{is_number_byte, front_of, behind}
use Rattle.wkt_terms.specs.Tokens.{Numeral, StartsWith, token_at, behind_token}
use Rattle.wkt_laws.specs.Steps.{place}
use Rattle.text_fields.proofs.Printed.{number_byte}

-- what stands at the front is the token of this number
numeral_at : (bs : List ℕ) (z : ℤ) → number_of (front_of is_number_byte bs) ≡ Whole z
    → (token_at bs ≡ Numeral (Whole z)) × (behind_token bs ≡ behind is_number_byte bs)
numeral_at [] z h = absurd cc
numeral_at (b ∷ bs) z h = at (is_number_byte b) refl h
  where
    at : (x : Bool) → is_number_byte b ≡ x → number_of (cond x (b ∷ front_of is_number_byte bs) []) ≡ Whole z
        → (token_at (b ∷ bs) ≡ Numeral (Whole z)) × (behind_token (b ∷ bs) ≡ behind is_number_byte (b ∷ bs))
    at true e k = let l = number_byte b e in rw (l.1, e) (ap Numeral k, refl)
    at false e k = absurd cc

pub position_at : (text behind_x rest : List ℕ) (x y : ℤ) (p : Place)
    → number_of (front_of is_number_byte (skip_blanks text)) ≡ Whole x → behind_x ≡ behind is_number_byte (skip_blanks text)
    → number_of (front_of is_number_byte (skip_blanks behind_x)) ≡ Whole y → rest ≡ behind is_number_byte (skip_blanks behind_x)
    → p ≡ place x y → StartsWith text (position p) rest
position_at text behind_x rest x y p hx ex hy ey is =
    let a = numeral_at (skip_blanks text) x hx in
    let b = numeral_at (skip_blanks behind_x) y hy in
    let e : behind_token (skip_blanks text) ≡ behind_x = a.1 ∙ sym ex in
    subst (λ (q : Place). StartsWith text (position q) rest) (sym is) (a.0, rw e (b.0, b.1 ∙ sym ey))
