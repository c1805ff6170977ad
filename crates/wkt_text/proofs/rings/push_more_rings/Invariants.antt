use Rattle.std.proofs.Common.{◌≡◌, ◌++◌, drop}
use Rattle.wkt_text.specs.Closed.{ring_text}
use Rattle.shape.specs.Given.{rings_in as lists_of}
use Rattle.wkt_laws.specs.Commas.{comma_texts}
use Rattle.wkt_text.proofs.rings.push_more_rings.Given as goal

abbrev pub invariant-loop-ring : goal.invariant-loop-ring
invariant-loop-ring l = l.out.items ++ comma_texts ring_text (lists_of (drop l.ring-index l.rings)) ≡ l.initial.out.items ++ comma_texts ring_text (lists_of l.rings)
