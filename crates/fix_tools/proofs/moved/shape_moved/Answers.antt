use Rattle.std.proofs.Common.{◌≡◌, ◌∙◌, List, sym, subst, ap, IfOk, IfErr}
use Rattle.plane_terms.specs.Point.{Place}
use Rattle.plane_terms.specs.Shape.{Shape}
use Rattle.plane_terms.specs.ShapeFaults.{IsFault, IsFlawless}
use Rattle.shape.specs.Given.{lines_in, polygons_in}
use Rattle.fix_terms.specs.Move.{moved_parts}
use Rattle.fix_tools.proofs.MovedParts.{line_moved, line_given, moved_countable}
use Rattle.fix_tools.proofs.moved.shape_moved.Goals as goal

pub line-requires : goal.line-requires
line-requires c =
    moved_countable c.args.from c.args.to c.args.shape.now (lines_in c.in_ok-rings_moved-in-Line.field-0.items) c.in-Line.ensures.valid
    (line_given c.args.from c.args.to c.args.shape.now c.lines.result.now c.in_ok-rings_moved-in-Line.field-0.items
    (c.lines.ensures.parts (sym c.in-Line.ensures.value)) c.in_ok-rings_moved-in-Line.ensures)

pub polygon-requires : goal.polygon-requires
polygon-requires c =
    moved_countable c.args.from c.args.to c.args.shape.now (polygons_in c.in_ok-parts_moved-in-Polygon.field-0.items) c.in-Polygon.ensures.valid
    (c.in_ok-parts_moved-in-Polygon.ensures
    ∙ ap (λ (ps : List (List (List Place))). moved_parts c.args.from c.args.to ps) (c.polygons.ensures.parts (sym c.in-Polygon.ensures.value)))

pub returns-in_ok-rings_moved-in-Line-clause-made : goal.returns-in_ok-rings_moved-in-Line-clause-made
returns-in_ok-rings_moved-in-Line-clause-made c =
    let k = sym c.in-Line.ensures.value in
    let e = line_moved c.args.from c.args.to c.args.shape.now c.lines.result.now c.in_ok-rings_moved-in-Line.field-0.items k
    (c.lines.ensures.parts k) c.in_ok-rings_moved-in-Line.ensures in
    subst (λ (x : Shape). IfOk c.line.result (λ s. s ≡ x)) e c.line.ensures.made

pub returns-in_ok-rings_moved-in-Line-clause-flawless : goal.returns-in_ok-rings_moved-in-Line-clause-flawless
returns-in_ok-rings_moved-in-Line-clause-flawless c =
    let k = sym c.in-Line.ensures.value in
    let e = line_moved c.args.from c.args.to c.args.shape.now c.lines.result.now c.in_ok-rings_moved-in-Line.field-0.items k
    (c.lines.ensures.parts k) c.in_ok-rings_moved-in-Line.ensures in
    subst (λ (x : Shape). IfOk c.line.result (λ s. IsFlawless x)) e c.line.ensures.flawless

pub returns-in_ok-rings_moved-in-Line-clause-refused : goal.returns-in_ok-rings_moved-in-Line-clause-refused
returns-in_ok-rings_moved-in-Line-clause-refused c =
    let k = sym c.in-Line.ensures.value in
    let e = line_moved c.args.from c.args.to c.args.shape.now c.lines.result.now c.in_ok-rings_moved-in-Line.field-0.items k
    (c.lines.ensures.parts k) c.in_ok-rings_moved-in-Line.ensures in
    subst (λ (x : Shape). IfErr c.line.result (λ fault. IsFault x fault)) e c.line.ensures.refused
