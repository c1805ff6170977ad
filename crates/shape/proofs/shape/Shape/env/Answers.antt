use Rattle.std.proofs.Common.{◌∙◌, sym, ap}
use Rattle.plane_terms.specs.Shape.{envelope_of}
use Rattle.shape.specs.Form.{shape_in}
use Rattle.shape.specs.declared.form.Form.{Form}
use Rattle.shape.proofs.Held.{point_box}
use Rattle.shape.proofs.shape.Shape.env.Goals as goal

pub returns-in-Point : goal.returns-in-Point
returns-in-Point c = c.round.ensures.value ∙ point_box c.in-Point.place ∙ ap (λ (f : Form). envelope_of (shape_in f)) (sym c.in-Point.is)
    ∙ ap envelope_of c.self.view_is
