-- The first token of a text that does not fit, and why.
--
-- IsBegun front             some geometry's spelling begins with these tokens
-- IsFront front             the same, where the end of the text may be among them
-- StopsAt text at front t   these tokens stand first and begin a spelling, the token t follows at the place `at`, and with it they begin
--                           none;
--                           the place is the number of bytes before it, of the end the length of the text
-- Wants front t             some spelling goes on with t behind these tokens
-- IsCause front t c         why t does not fit there:
--     IsUnsupported         it is the first token and a word, or a Modifier in the place of an opening bracket, or a third number of a
--                           position
--     IsOffGrid             a number is wanted, and it has a fraction
--     IsOutOfReach          a number is wanted, and it is whole and beyond the reach
--     IsSyntax              none of these
-- FirstFault text at c      the text stops at this place for this cause
--
-- Of a text that spells a geometry there is no such place, and of each other text just one. Source: own.
use Rattle.std.specs.Prelude.{ℕ, ℤ, pos, ◌≡◌, ◌+◌, ◌⊎◌, length, List, [], ◌∷◌, ◌++◌}
use Rattle.text_terms.specs.Fields.{skip_blanks}
use Rattle.wkt_terms.specs.Grammar.{Geometry, spelling, IsFull}
use Rattle.wkt_terms.specs.Numerals.{Number, Whole, OffGrid, OutOfReach}
use Rattle.wkt_terms.specs.Tokens.{Token, Open, Close, Named, Numeral, End, Modifier, token_at, StartsWith}

abbrev pub IsBegun : List Token → Type 0
IsBegun front = (g : Geometry) × (more : List Token) × IsFull g × (front ++ more ≡ spelling g)

abbrev pub IsFront : List Token → Type 0
IsFront front = (g : Geometry) × (more : List Token) × IsFull g × (front ++ more ≡ spelling g ++ End ∷ [])

pub record StopsAt (text : List ℕ) (at : ℕ) (front : List Token) (token : Token) : Type 0 where
  pub rest : List ℕ
  pub begins : StartsWith text front rest
  pub place : at + length (skip_blanks rest) ≡ length text
  pub next : token_at (skip_blanks rest) ≡ token
  pub fits : IsBegun front
  pub stops : IsFront (front ++ token ∷ []) → ⊥

pub data Cause : Type 0 where
  IsSyntax : Cause
  IsOffGrid : Cause
  IsOutOfReach : Cause
  IsUnsupported : Cause

abbrev pub Wants : List Token → Token → Type 0
Wants front t = IsFront (front ++ t ∷ [])

abbrev pub EndsInNumber : List Token → Type 0
EndsInNumber front = (before : List Token) × (z : ℤ) × (front ≡ before ++ Numeral (Whole z) ∷ [])

abbrev pub UnsupportedAt : List Token → Token → Type 0
UnsupportedAt front (Named w) = (front ≡ []) ⊎ ((w ≡ Modifier) × Wants front Open)
UnsupportedAt front (Numeral n) = EndsInNumber front × Wants front Close
UnsupportedAt front _ = ⊥

-- such a numeral stands where a number is wanted
abbrev pub NumeralAt : Number → List Token → Token → Type 0
NumeralAt n front t = (t ≡ Numeral n) × Wants front (Numeral (Whole (pos 0)))

abbrev pub IsCause : List Token → Token → Cause → Type 0
IsCause front t IsUnsupported = UnsupportedAt front t
IsCause front t IsOffGrid = NumeralAt OffGrid front t
IsCause front t IsOutOfReach = NumeralAt OutOfReach front t
IsCause front t IsSyntax = (UnsupportedAt front t → ⊥) × (NumeralAt OffGrid front t → ⊥) × (NumeralAt OutOfReach front t → ⊥)

pub record FirstFault (text : List ℕ) (at : ℕ) (cause : Cause) : Type 0 where
  pub front : List Token
  pub token : Token
  pub place : StopsAt text at front token
  pub why : IsCause front token cause
