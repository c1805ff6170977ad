use Rattle.std.proofs.Common.{◌∙◌, ap, sym, List, Vec}
use Rattle.std.specs.Global.{Global}
use Rattle.shape.specs.Given.{all_rings}
use Rattle.shape.specs.Given.{Ring, polygons_in as parts_of}
use Rattle.wkt_text.specs.Open.{first_open}
use Rattle.wkt_text.proofs.FirstOpen.{open_at, none_open}
use Rattle.wkt_text.proofs.Polygons.{polygon_from}
use Rattle.wkt_text.proofs.parts.polygon_of.Goals as goal

pub returns-in-Some : goal.returns-in-Some
returns-in-Some c =
    open_at c.in-Some.ring (all_rings (parts_of c.args.parts.items))
    (ap (λ (ps : List (Vec Ring Global)). first_open 0 (all_rings (parts_of ps))) (sym c.deref.ensures.value) ∙ sym c.in-Some.ensures)

pub returns : goal.returns
returns c =
    polygon_from (parts_of c.args.parts.items) c.closed_polygon.result
    (none_open (all_rings (parts_of c.args.parts.items))
    (ap (λ (ps : List (Vec Ring Global)). first_open 0 (all_rings (parts_of ps))) (sym c.deref.ensures.value)
    ∙ sym c.in_default.ensures)) c.closed_polygon.ensures
