-- What the numbers of the code stand for.
--
-- meant n                    the meaning of the code's value
-- has_number_byte text       it begins with a digit, a sign or a point
-- IsShort n ds z rest        the digits at the front of ds, at least one and no sign or point behind them, are worth z,
--                            negated where n says so, and rest follows them
use Rattle.std.specs.Prelude.{ℕ, ℤ, ◌≡◌, ◌≢◌, Bool, false, List, [], ◌∷◌}
use Rattle.text_terms.specs.Fields.{is_digit}
use Rattle.wkt_terms.specs.Numerals as numerals
use Rattle.wkt_terms.specs.Numerals.{value_of, within_reach}
use Rattle.wkt_terms.specs.Runs.{is_number_byte, front_of, behind}
use Rattle.text_fields.specs.declared.number.Number.{Number}
use Rattle.text_fields.specs.declared.number.Number.TheVariants as number

abbrev pub meant : Number → numerals.Number
meant (number.Whole z) = numerals.Whole z
meant number.OffGrid = numerals.OffGrid
meant number.OutOfReach = numerals.OutOfReach
meant number.NoNumber = numerals.NoNumber

abbrev pub has_number_byte : List ℕ → Bool
has_number_byte [] = false
has_number_byte (b ∷ bs) = is_number_byte b

pub record IsShort (negative : Bool) (digits : List ℕ) (z : ℤ) (rest : List ℕ) : Type 0 where
  pub some : front_of is_digit digits ≢ []
  pub all : front_of is_number_byte digits ≡ front_of is_digit digits
  pub value : within_reach negative (value_of (front_of is_digit digits)) ≡ numerals.Whole z
  pub left : rest ≡ behind is_number_byte digits
