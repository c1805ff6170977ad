-- The classes of bytes.
--
-- has c b     the byte b is of the class c
use Rattle.std.specs.Prelude.{ℕ, Bool}
use Rattle.text_terms.specs.Fields.{is_letter, is_digit}
use Rattle.wkt_terms.specs.Runs.{is_number_byte}
use Rattle.text_fields.specs.declared.runs.Class.{Class}
use Rattle.text_fields.specs.declared.runs.Class.TheVariants as class

abbrev pub has : Class → ℕ → Bool
has class.Letter = is_letter
has class.Digit = is_digit
has class.Number = is_number_byte
