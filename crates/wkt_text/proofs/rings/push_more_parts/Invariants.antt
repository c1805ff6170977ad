use Rattle.std.proofs.Common.{◌≡◌, ◌++◌, drop}
use Rattle.wkt_text.specs.Closed.{rings_text}
use Rattle.shape.specs.Given.{polygons_in as parts_of}
use Rattle.wkt_laws.specs.Commas.{comma_texts}
use Rattle.wkt_text.proofs.rings.push_more_parts.Given as goal

abbrev pub invariant-loop-part : goal.invariant-loop-part
invariant-loop-part l = l.out.items ++ comma_texts rings_text (parts_of (drop l.part-index l.parts)) ≡ l.initial.out.items ++ comma_texts rings_text (parts_of l.parts)
