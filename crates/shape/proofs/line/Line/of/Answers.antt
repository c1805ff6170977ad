use Rattle.std.proofs.Common.{◌∙◌, ap, subst}
use Rattle.plane_terms.specs.Shape.{Shape}
use Rattle.plane_terms.specs.ShapeFaults.{IsFault, IsFlawless}
use Rattle.shape.specs.Form.{line_shape}
use Rattle.shape.proofs.Made.{line_made, line_countable, line_differs}
use Rattle.shape.proofs.Results.{if_ok, if_err}
use Rattle.shape.proofs.line.Line.of.Goals as goal

pub line_of-requires-clause-countable : goal.line_of-requires-clause-countable
line_of-requires-clause-countable c = line_countable c.kept_parts.result.items c.args.parts.items c.kept_parts.ensures c.requires

pub line_of-requires-clause-differ : goal.line_of-requires-clause-differ
line_of-requires-clause-differ c = line_differs c.kept_parts.result.items c.args.parts.items c.kept_parts.ensures

pub returns-clause-made : goal.returns-clause-made
returns-clause-made c =
    if_ok c.line_of.result (λ l e. ap line_shape e ∙ line_made c.kept_parts.result.items c.args.parts.items c.kept_parts.ensures)
    c.line_of.ensures.parts

pub returns-clause-flawless : goal.returns-clause-flawless
returns-clause-flawless c =
    if_ok c.line_of.result
    (λ l f. subst (λ (s : Shape). IsFlawless s) (line_made c.kept_parts.result.items c.args.parts.items c.kept_parts.ensures) f)
    c.line_of.ensures.flawless

pub returns-clause-refused : goal.returns-clause-refused
returns-clause-refused c =
    if_err c.line_of.result
    (λ fault f. subst (λ (s : Shape). IsFault s fault) (line_made c.kept_parts.result.items c.args.parts.items c.kept_parts.ensures) f)
    c.line_of.ensures.refused
