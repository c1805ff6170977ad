-- What the tokens of the code stand for.
--
-- word_meant w, token_meant t     the meaning of the code's value
use Rattle.text_fields.specs.Numbers.{meant}
use Rattle.wkt_terms.specs.Tokens as tokens
use Rattle.wkt_text.specs.declared.token.Word.{Word}
use Rattle.wkt_text.specs.declared.token.Word.TheVariants as word
use Rattle.wkt_text.specs.declared.token.Token.{Token}
use Rattle.wkt_text.specs.declared.token.Token.TheVariants as token

abbrev pub word_meant : Word → tokens.Word
word_meant word.Point = tokens.Point
word_meant word.LineString = tokens.LineString
word_meant word.MultiLineString = tokens.MultiLineString
word_meant word.Polygon = tokens.Polygon
word_meant word.MultiPolygon = tokens.MultiPolygon
word_meant word.Modifier = tokens.Modifier
word_meant word.Strange = tokens.Strange

abbrev pub token_meant : Token → tokens.Token
token_meant token.Open = tokens.Open
token_meant token.Close = tokens.Close
token_meant token.Comma = tokens.Comma
token_meant (token.Named w) = tokens.Named (word_meant w)
token_meant (token.Numeral n) = tokens.Numeral (meant n)
token_meant token.Other = tokens.Other
token_meant token.End = tokens.End
