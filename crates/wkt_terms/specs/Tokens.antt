-- The tokens of well-known text.
--
-- Word, Token         what a token means; a number is told by what it means on the grid, End is the end of the text
-- word_of text        the word that these letters are, in any case: one of the five kinds of geometry, a Modifier, or Strange
-- token_at text       the token at the front of a text that does not begin with a blank:
--                     a word is the longest run of letters, a number the longest run of digits, signs and points,
--                     a bracket, a comma and any other byte stand alone
-- behind_token text   what follows that token
-- StartsWith text ts rest     the text begins with these tokens, blanks before them aside, and then this is left
use Rattle.std.specs.Prelude.{ℕ, ◌≡◌, Bool, ◌||◌, ◌==◌, List, [], ◌∷◌, codes, if◌then◌else◌}
use Rattle.text_terms.specs.Fields.{is_letter, skip_blanks}
use Rattle.wkt_terms.specs.Numerals.{Number, number_of}
use Rattle.wkt_terms.specs.Runs.{is_number_byte, front_of, behind, spells}

pub data Word : Type 0 where
  Point : Word
  LineString : Word
  MultiLineString : Word
  Polygon : Word
  MultiPolygon : Word
  Modifier : Word  -- Z, M, ZM or EMPTY
  Strange : Word

pub data Token : Type 0 where
  Open : Token
  Close : Token
  Comma : Token
  Named : Word → Token
  Numeral : Number → Token
  Other : Token
  End : Token

abbrev pub is_modifier : List ℕ → Bool
is_modifier text = spells text (codes "z") || (spells text (codes "m") || (spells text (codes "zm") || spells text (codes "empty")))

abbrev pub word_of : List ℕ → Word
word_of text = if spells text (codes "point") then Point else
    (if spells text (codes "linestring") then LineString else
    (if spells text (codes "multilinestring") then MultiLineString else
    (if spells text (codes "polygon") then Polygon else
    (if spells text (codes "multipolygon") then MultiPolygon else
    (if is_modifier text then Modifier else Strange)))))

abbrev pub token_at : List ℕ → Token
token_at [] = End
token_at (b ∷ bs) = if is_letter b then Named (word_of (front_of is_letter (b ∷ bs))) else
    (if is_number_byte b then Numeral (number_of (front_of is_number_byte (b ∷ bs))) else
    (if b == 40 then Open else (if b == 41 then Close else (if b == 44 then Comma else Other))))

abbrev pub behind_token : List ℕ → List ℕ
behind_token [] = []
behind_token (b ∷ bs) = if is_letter b then behind is_letter (b ∷ bs) else (if is_number_byte b then behind is_number_byte (b ∷ bs) else bs)

abbrev pub StartsWith : List ℕ → List Token → List ℕ → Type 0
StartsWith text [] rest = text ≡ rest
StartsWith text (t ∷ ts) rest = (token_at (skip_blanks text) ≡ t) × StartsWith (behind_token (skip_blanks text)) ts rest
