-- The parts of a shape and the frames of its segments, as the code keeps them.
--
-- parts_in p      the parts
-- frames_in p     the frames; of one part in place there are none
use Rattle.std.specs.Prelude.{List, []}
use Rattle.plane_terms.specs.Rectangle.{Rectangle}
use Rattle.shape.specs.declared.parts.Parts.{Parts}
use Rattle.shape.specs.declared.parts.Parts.TheVariants.{One, Framed}

module _ {T : Type 0} where
  abbrev pub parts_in : Parts T → List T
  parts_in (One parts) = parts
  parts_in (Framed framed) = framed.value.parts.items

  abbrev pub frames_in : Parts T → List Rectangle
  frames_in (One parts) = []
  frames_in (Framed framed) = framed.value.frames.items
