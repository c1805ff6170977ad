-- Whole numbers of any size, as the code holds them.
--
-- StandsFor w z          z lies within the reach, and w is that number; or it lies beyond it, and w says so
-- IsFor w field          the field is digits, with a `-` before them or without, and w stands for the number that they write
-- AreFor a b c d r       these stand for the four numbers of r
-- behind_minus text      the text without a `-` at its front
-- is_digits text         digits alone, at least one
-- whole_of negative n    what stands for the number of digits of the value n, behind a `-` where negative is true
use Rattle.std.specs.Prelude.{◌≡◌, ℕ, ℤ, Bool, ◌&&◌, ◌==◌, nat_le, nat_lt, List, [], ◌∷◌, length, if◌then◌else◌}
use Rattle.std.specs.List.{list_all}
use Rattle.plane_terms.specs.Point.{InReach}
use Rattle.plane_terms.specs.Rectangle.{Rectangle}
use Rattle.text_terms.specs.Fields.{is_digit}
use Rattle.text_terms.specs.Numbers.{IsSigned}
use Rattle.wkt_terms.specs.Numerals.{signed}
use Rattle.script_text.specs.declared.whole.Whole.{Whole}
use Rattle.script_text.specs.declared.whole.Whole.TheVariants.{Within, Beyond}

abbrev pub StandsFor : Whole → ℤ → Type 0
StandsFor (Within n) z = (n ≡ z) × InReach z
StandsFor Beyond z = ¬ (InReach z)

abbrev pub IsFor : Whole → List ℕ → Type 0
IsFor w field = (z : ℤ) × IsSigned field z × StandsFor w z

pub record AreFor (a b c d : Whole) (r : Rectangle) : Type 0 where
  pub left : StandsFor a r.x0
  pub below : StandsFor b r.y0
  pub right : StandsFor c r.x1
  pub above : StandsFor d r.y1

abbrev pub behind_minus : List ℕ → List ℕ
behind_minus [] = []
behind_minus (b ∷ bs) = if b == 45 then bs else b ∷ bs

abbrev pub is_digits : List ℕ → Bool
is_digits text = nat_lt 0 (length text) && list_all is_digit text

abbrev pub whole_of : Bool → ℕ → Whole
whole_of negative n = if nat_le n 4194304 then Within (signed negative n) else Beyond
