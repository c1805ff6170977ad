use Rattle.std.proofs.Common.{◌≡◌, subst, IfOk, IfErr}
use Rattle.plane_terms.specs.Shape.{Shape, IsShape}
use Rattle.plane_terms.specs.ShapeFaults.{IsFault, IsFlawless}
use Rattle.fix_tools.proofs.Snapped.{long_lines, end_below, countable, line_made}
use Rattle.fix_tools.proofs.Results.{both_ok}
use Rattle.fix_tools.proofs.ends.shape_with_end.Goals as goal

pub parts_with_end-requires-clause-long : goal.parts_with_end-requires-clause-long
parts_with_end-requires-clause-long c =
    long_lines c.args.line.now c.lines.result.now c.kind.ensures.valid c.requires.line (c.lines.ensures.parts c.requires.line)

pub parts_with_end-requires-clause-within : goal.parts_with_end-requires-clause-within
parts_with_end-requires-clause-within c =
    end_below c.args.line.now c.lines.result.now c.args.end c.kind.ensures.valid c.requires.line (c.lines.ensures.parts c.requires.line)
    c.requires.within

pub line-requires : goal.line-requires
line-requires c =
    countable c.args.line.now c.lines.result.now c.in_ok-parts_with_end.field-0.items c.args.end c.args.to c.kind.ensures.valid
    (c.lines.ensures.parts c.requires.line) c.in_ok-parts_with_end.ensures

pub returns-clause-made : goal.returns-clause-made
returns-clause-made c =
    let e = line_made c.args.line.now c.lines.result.now c.in_ok-parts_with_end.field-0.items c.args.end c.args.to
    (c.lines.ensures.parts c.requires.line) c.in_ok-parts_with_end.ensures in
    subst (λ (x : Shape). IfOk c.line.result (λ s. s ≡ x)) e c.line.ensures.made

pub returns-clause-valid : goal.returns-clause-valid
returns-clause-valid c =
    let e = line_made c.args.line.now c.lines.result.now c.in_ok-parts_with_end.field-0.items c.args.end c.args.to
    (c.lines.ensures.parts c.requires.line) c.in_ok-parts_with_end.ensures in
    subst (λ (x : Shape). IfOk c.line.result (λ s. IsShape x)) e (both_ok c.line.result _ IsShape c.line.ensures.made c.line.ensures.valid)

pub returns-clause-flawless : goal.returns-clause-flawless
returns-clause-flawless c =
    let e = line_made c.args.line.now c.lines.result.now c.in_ok-parts_with_end.field-0.items c.args.end c.args.to
    (c.lines.ensures.parts c.requires.line) c.in_ok-parts_with_end.ensures in
    subst (λ (x : Shape). IfOk c.line.result (λ s. IsFlawless x)) e c.line.ensures.flawless

pub returns-clause-refused : goal.returns-clause-refused
returns-clause-refused c =
    let e = line_made c.args.line.now c.lines.result.now c.in_ok-parts_with_end.field-0.items c.args.end c.args.to
    (c.lines.ensures.parts c.requires.line) c.in_ok-parts_with_end.ensures in
    subst (λ (x : Shape). IfErr c.line.result (λ fault. IsFault x fault)) e c.line.ensures.refused
