-- Rings as they are written.
--
-- ring_text ring       the ring, closed by its first place
-- rings_text rings     rings in brackets, each closed
use Rattle.std.specs.Prelude.{ℕ, List, map}
use Rattle.plane_terms.specs.Point.{Place}
use Rattle.text_terms.specs.Wkt.{listed}
use Rattle.wkt_terms.specs.Shapes.{closed}
use Rattle.wkt_terms.specs.Written.{bracketed, list_text}

abbrev pub ring_text : List Place → List ℕ
ring_text ring = list_text (closed ring)

abbrev pub rings_text : List (List Place) → List ℕ
rings_text rings = bracketed (listed (map ring_text rings))
