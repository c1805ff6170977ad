-- The fields of a project's lines, and their numbers.
--
-- joined fs           the fields with one space between them
-- fields line         the parts of a line between its spaces: the empty line has one, which is empty; `a  b` has three, of which the
--                     second is empty
-- fields_from         the same, where so much of the first field was read before
-- spelled digits      whether these are digits as a number is written: `0` alone, or digits of which the first is not 0
-- counted digits      their value; one above 2^50 counts as 2^50, which is beyond every limit of a project
-- number field        the number that a field is: spelled digits, with `-` before them where it is negative; none where it is spelled
--                     otherwise.
--                     `-0` and `+1` are no numbers. Whatever its length, a number is one
-- natural low high z  the number z where it is from low to high
-- before_colon field  the field up to its first colon; all of it, where it has none
-- behind_colon field  what stands behind that colon, where there is one
--
-- Source: own.
use Rattle.std.specs.Prelude.{ℕ, ℤ, pos, negsuc, neg_ℤ, Bool, false, ◌&&◌, ◌||◌, ◌==◌, nat_le, List, [], ◌∷◌, ◌++◌, Option, Some, None, if◌then◌else◌}
use Rattle.std.specs.List.{list_all}
use Rattle.text_terms.specs.Fields.{is_digit}
use Rattle.text_terms.specs.Wkt.{◌⧺◌}
use Rattle.wkt_terms.specs.Numerals.{value_of}

abbrev pub joined : List (List ℕ) → List ℕ
joined [] = []
joined (f ∷ []) = f
joined (f ∷ g ∷ fs) = f ⧺ 32 ∷ joined (g ∷ fs)

abbrev pub fields_from : List ℕ → List ℕ → List (List ℕ)
fields_from before [] = before ∷ []
fields_from before (b ∷ bs) = if b == 32 then before ∷ fields_from [] bs else fields_from (before ++ b ∷ []) bs

abbrev pub fields : List ℕ → List (List ℕ)
fields line = fields_from [] line

-- digits of which the first is not 0
abbrev pub is_positive : List ℕ → Bool
is_positive [] = false
is_positive (b ∷ bs) = (nat_le 49 b && nat_le b 57) && list_all is_digit bs

abbrev pub is_nought : List ℕ → Bool
is_nought [] = false
is_nought (b ∷ []) = b == 48
is_nought (b ∷ c ∷ bs) = false

abbrev pub spelled : List ℕ → Bool
spelled digits = is_nought digits || is_positive digits

abbrev pub counted : List ℕ → ℕ
counted digits = if nat_le (value_of digits) 1125899906842624 then value_of digits else 1125899906842624

abbrev pub positive : List ℕ → Option ℤ
positive digits = if spelled digits then Some (pos (counted digits)) else None

abbrev pub negative : List ℕ → Option ℤ
negative digits = if is_positive digits then Some (neg_ℤ (pos (counted digits))) else None

abbrev pub number : List ℕ → Option ℤ
number [] = None
number (b ∷ bs) = if b == 45 then negative bs else positive (b ∷ bs)

abbrev pub natural : ℕ → ℕ → ℤ → Option ℕ
natural low high (pos n) = if nat_le low n && nat_le n high then Some n else None
natural low high (negsuc n) = None

abbrev pub before_colon : List ℕ → List ℕ
before_colon [] = []
before_colon (b ∷ bs) = if b == 58 then [] else b ∷ before_colon bs

abbrev pub behind_colon : List ℕ → Option (List ℕ)
behind_colon [] = None
behind_colon (b ∷ bs) = if b == 58 then Some bs else behind_colon bs
