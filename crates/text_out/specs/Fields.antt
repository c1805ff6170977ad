-- Fields of a line, each behind a space.
--
-- rect_text r      the numbers of a rectangle, least corner first
-- key_text r a b   the key of an error: its rule, its subject and its partner
-- half_text h      the numbers and the sign of a half-plane
use Rattle.std.specs.Prelude.{ℕ, List, ◌∷◌, decimal}
use Rattle.std.specs.Fmt.{signed_decimal}
use Rattle.plane_terms.specs.Rectangle.{Rectangle}
use Rattle.plane_terms.specs.HalfPlane.{HalfPlane}
use Rattle.text_terms.specs.Wkt.{◌⧺◌}
use Rattle.project_terms.specs.Written.{op_word}

abbrev pub rect_text : Rectangle → List ℕ
rect_text r = 32 ∷ signed_decimal r.x0 ⧺ 32 ∷ signed_decimal r.y0 ⧺ 32 ∷ signed_decimal r.x1 ⧺ 32 ∷ signed_decimal r.y1

abbrev pub key_text : ℕ → ℕ → ℕ → List ℕ
key_text rule subject partner = 32 ∷ decimal rule ⧺ 32 ∷ decimal subject ⧺ 32 ∷ decimal partner

abbrev pub half_text : HalfPlane → List ℕ
half_text h = 32 ∷ signed_decimal h.a ⧺ 32 ∷ signed_decimal h.b ⧺ 32 ∷ signed_decimal h.c ⧺ 32 ∷ op_word h.op
