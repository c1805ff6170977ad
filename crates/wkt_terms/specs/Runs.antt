-- Runs of bytes of one class, and words in any case.
--
-- front_of p text      the longest run of bytes of the class p at the front
-- behind p text        what follows that run
-- is_number_byte b     a digit, a sign or a point
-- lower b              a letter in lower case; other bytes stay
-- spells text word     the text is this word of lower-case letters, in any case
use Rattle.std.specs.Prelude.{ℕ, ◌+◌, Bool, true, false, ◌&&◌, ◌||◌, ◌==◌, nat_le, List, [], ◌∷◌, if◌then◌else◌}
use Rattle.text_terms.specs.Fields.{is_digit}

abbrev pub front_of : (ℕ → Bool) → List ℕ → List ℕ
front_of p [] = []
front_of p (b ∷ bs) = if p b then b ∷ front_of p bs else []

abbrev pub behind : (ℕ → Bool) → List ℕ → List ℕ
behind p [] = []
behind p (b ∷ bs) = if p b then behind p bs else b ∷ bs

abbrev pub is_number_byte : ℕ → Bool
is_number_byte b = is_digit b || ((b == 43) || ((b == 45) || (b == 46)))

abbrev pub lower : ℕ → ℕ
lower b = if nat_le 65 b && nat_le b 90 then b + 32 else b

abbrev pub spells : List ℕ → List ℕ → Bool
spells [] [] = true
spells [] (c ∷ cs) = false
spells (b ∷ bs) [] = false
spells (b ∷ bs) (c ∷ cs) = (lower b == c) && spells bs cs
