-- What a numeral means on the grid.
--
-- Number            Whole z: it is z, within the reach; OffGrid: a digit behind the point is not 0;
--                   OutOfReach: whole, and beyond the reach; NoNumber: it has not the form of a numeral
-- number_of text    what the text means: an optional sign, then digits, or digits and a point with no or more digits behind it,
--                   or a point with digits behind it; the form is looked at first, then whether it is whole, then the reach
-- number_in n w f   the same, of the digits w before the point, of what follows them, f, and of whether it is negative, n
--
-- Zeros in front are free, digits may be as many as one likes, and `-0` is 0. Source: own.
use Rattle.std.specs.Prelude.{ℕ, ℤ, pos, neg_ℤ, ◌+◌, ◌*◌, Bool, true, false, ◌&&◌, ◌||◌, ◌==◌, nat_le, nat_lt, List, [], ◌∷◌, length, drop, if◌then◌else◌}
use Rattle.std.specs.List.{list_all}
use Rattle.text_terms.specs.Fields.{is_digit}
use Rattle.text_terms.specs.Numbers.{value_from}
use Rattle.wkt_terms.specs.Runs.{front_of, behind}

pub data Number : Type 0 where
  Whole : ℤ → Number
  OffGrid : Number
  OutOfReach : Number
  NoNumber : Number

-- the number that digits write, however many
abbrev pub value_of : List ℕ → ℕ
value_of digits = value_from 0 digits

abbrev pub is_negative : List ℕ → Bool
is_negative [] = false
is_negative (b ∷ bs) = b == 45

-- without the sign in front
abbrev pub unsigned : List ℕ → List ℕ
unsigned [] = []
unsigned (b ∷ bs) = if (b == 43) || (b == 45) then bs else b ∷ bs

-- nothing, or a point and digits
abbrev pub is_fraction : List ℕ → Bool
is_fraction [] = true
is_fraction (b ∷ bs) = (b == 46) && list_all is_digit bs

-- a digit stands before the point or behind it
abbrev pub has_form : List ℕ → List ℕ → Bool
has_form whole fraction = is_fraction fraction && nat_lt 1 (2 * length whole + length fraction)

-- each digit behind the point is 0
abbrev pub is_on_grid : List ℕ → Bool
is_on_grid fraction = list_all (λ b. b == 48) (drop 1 fraction)

abbrev pub signed : Bool → ℕ → ℤ
signed negative n = if negative then neg_ℤ (pos n) else pos n

abbrev pub within_reach : Bool → ℕ → Number
within_reach negative n = if nat_le n 4194304 then Whole (signed negative n) else OutOfReach

abbrev pub number_in : Bool → List ℕ → List ℕ → Number
number_in negative whole fraction = if has_form whole fraction then (if is_on_grid fraction then within_reach negative (value_of whole) else
    OffGrid) else NoNumber

abbrev pub number_of : List ℕ → Number
number_of text = number_in (is_negative text) (front_of is_digit (unsigned text)) (behind is_digit (unsigned text))
