use Rattle.std.proofs.Common.{◌≡◌, ◌++◌, drop}
use Rattle.wkt_terms.specs.Written.{place_text}
use Rattle.wkt_laws.specs.Commas.{comma_texts}
use Rattle.wkt_text.proofs.lists.push_more_places.Given as goal

abbrev pub invariant-loop-place : goal.invariant-loop-place
invariant-loop-place l = l.out.items ++ comma_texts place_text (drop l.place-index l.places) ≡ l.initial.out.items ++ comma_texts place_text l.places
