use Rattle.std.proofs.Common.{◌∙◌, sym, ap, subst, length}
use Rattle.plane_terms.specs.Shape.{Shape, ends_of}
use Rattle.shape.specs.Form.{shape_in, IsFormed}
use Rattle.shape.specs.Parts.{parts_in}
use Rattle.shape.specs.declared.form.Form.{Form}
use Rattle.shape.specs.declared.form.Form.TheVariants as form
use Rattle.shape.specs.declared.line.Line.{Line}
use Rattle.shape.proofs.Held.{held_long}
use Rattle.shape.proofs.shape.Shape.end_count.Goals as goal

pub returns-in-Line : goal.returns-in-Line
returns-in-Line c =
    let ps = parts_in c.in-Line.line.value.parts in
    let d : IsFormed (form.Line c.in-Line.line) = subst (λ (f : Form). IsFormed f) c.in-Line.is c.self.invariant in
    let same =
    ap (λ (f : Form). length (ends_of (shape_in f))) (sym c.in-Line.is) ∙ ap (λ (s : Shape). length (ends_of s)) c.self.view_is in
    let count = ap length c.as_slice.ensures ∙ ap (λ (l : Line). length (parts_in l.parts)) c.deref.ensures in
    held_long ps (length c.as_slice.result.now) d.valid count ∙ same
