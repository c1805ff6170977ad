use Rattle.std.proofs.Common.{◌∙◌, sym, ap, subst, arith, length, List, ◌≤◌}
use Rattle.plane_terms.specs.Point.{Place}
use Rattle.plane_terms.specs.Lists.{Every}
use Rattle.plane_terms.specs.Shape.{ends_of, two_ends}
use Rattle.std.specs.List.{slice_get, flat_map}
use Rattle.shape.specs.Given.{Ring, rings_in}
use Rattle.shape.specs.Parts.{parts_in}
use Rattle.shape.specs.declared.line.Line.{Line}
use Rattle.shape.specs.Form.{shape_in, IsFormed}
use Rattle.shape.specs.declared.form.Form.{Form}
use Rattle.shape.specs.declared.form.Form.TheVariants as form
use Rattle.shape.proofs.Held.{held_ends, held_rings}
use Rattle.shape.proofs.shape.Shape.end.Goals as goal

pub end_of-requires-clause-long : goal.end_of-requires-clause-long
end_of-requires-clause-long c =
    let d : IsFormed (form.Line c.in-Line.line) = subst (λ (f : Form). IsFormed f) c.in-Line.is c.self.invariant in
    let held = c.as_slice.ensures ∙ ap (λ (l : Line). parts_in l.parts) c.deref.ensures in
    subst (λ (ps : List Ring). Every (λ part. 1 ≤ length part) (rings_in ps)) (sym held)
    (held_rings (parts_in c.in-Line.line.value.parts) d.valid)

pub end_of-requires-clause-within : goal.end_of-requires-clause-within
end_of-requires-clause-within c =
    let held = c.as_slice.ensures ∙ ap (λ (l : Line). parts_in l.parts) c.deref.ensures in
    let same = ap (λ (ps : List Ring). flat_map two_ends (rings_in ps)) held ∙ held_ends (parts_in c.in-Line.line.value.parts)
    ∙ ap (λ (f : Form). ends_of (shape_in f)) (sym c.in-Line.is) ∙ ap ends_of c.self.view_is in
    omega (arith, c.requires, ap (λ (qs : List Place). length qs) same)

pub returns-in-Line : goal.returns-in-Line
returns-in-Line c =
    let held = c.as_slice.ensures ∙ ap (λ (l : Line). parts_in l.parts) c.deref.ensures in
    let same = ap (λ (ps : List Ring). flat_map two_ends (rings_in ps)) held ∙ held_ends (parts_in c.in-Line.line.value.parts)
    ∙ ap (λ (f : Form). ends_of (shape_in f)) (sym c.in-Line.is) ∙ ap ends_of c.self.view_is in
    ap (λ (qs : List Place). slice_get qs c.args.i) (sym same) ∙ c.end_of.ensures
