use Rattle.std.proofs.Common.{[], ◌∷◌, refl}
use Rattle.wkt_terms.specs.Tokens.{LineString, Polygon, Open, Named}
use Rattle.wkt_laws.specs.Steps.{Start}
use Rattle.wkt_laws.proofs.Passing.{passes_none}
use Rattle.wkt_text.proofs.direct.read_head.Goals as goal

pub returns-in-Some : goal.returns-in-Some
returns-in-Some c =
    rw c.new.ensures.items
    (record { done = Named LineString ∷ Open ∷ []; begins = c.in-Some.ensures; ran = refl; unended = λ _. tt })

pub returns-in-Some-behind_polygon : goal.returns-in-Some-behind_polygon
returns-in-Some-behind_polygon c =
    rw (c.new-in-Some-behind_polygon.ensures.items, c.new-in-Some-behind_polygon-2.ensures.items)
    (record { done = Named Polygon ∷ Open ∷ Open ∷ []; begins = c.in-Some-behind_polygon.ensures; ran = refl; unended = λ _. tt })

pub returns : goal.returns
returns c = passes_none Start c.args.text.now
