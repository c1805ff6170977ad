use Rattle.std.proofs.Common.{◌∙◌, ap}
use Rattle.shape.specs.Given.{rings_in}
use Rattle.shape.specs.Parts.{parts_in}
use Rattle.shape.proofs.Held.{same_lines}
use Rattle.shape.proofs.line.Line.try_copy.Goals as goal

pub returns-clause-parts : goal.returns-clause-parts
returns-clause-parts c =
    same_lines (parts_in c.in_ok-of.field-0) (parts_in c.args.self.now.parts) (ap rings_in c.in_ok-of.ensures.parts
    ∙ c.in_ok-parts.ensures ∙ ap rings_in c.as_slice.ensures)
