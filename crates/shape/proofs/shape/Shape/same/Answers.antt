use Rattle.std.proofs.Common.{◌∙◌, sym, ap}
use Rattle.shape.specs.Given.{rings_in}
use Rattle.shape.specs.Form.{shape_in}
use Rattle.shape.specs.Parts.{parts_in}
use Rattle.shape.specs.declared.line.Line.{Line}
use Rattle.shape.proofs.Held.{same_lines, same_rings}
use Rattle.shape.proofs.shape.Shape.same.Goals as goal

pub returns-in-Line-Line : goal.returns-in-Line-Line
returns-in-Line-Line c =
    let ps = parts_in c.in-Line-Line.line.value.parts in
    let qs = parts_in c.in-Line-Line.other.value.parts in
    let a = ap shape_in (sym c.in-Line-Line.is-0) ∙ c.self.view_is in
    let b = ap shape_in (sym c.in-Line-Line.is-1) ∙ c.other.view_is in
    let own = ap rings_in (c.as_slice.ensures ∙ ap (λ (l : Line). parts_in l.parts) c.deref.ensures) in
    let others = ap rings_in (c.as_slice-in-Line-Line.ensures ∙ ap (λ (l : Line). parts_in l.parts) c.deref-in-Line-Line.ensures) in (
      λ t. sym a ∙ same_lines ps qs (sym own ∙ c.are_same_rings.ensures.0 t ∙ others) ∙ b,
      λ e. c.are_same_rings.ensures.1 (own ∙ same_rings ps qs (a ∙ e ∙ sym b) ∙ sym others),
    )
