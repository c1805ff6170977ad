use Rattle.std.proofs.Common.{◌≡◌, to_z, of_z, w64, arith}
use Rattle.std.proofs.lemmas.Int.{ints}
use Rattle.project_text.specs.Reading.{rect_said}
use Rattle.project_text.proofs.Rects.{no_rectangle}
use Rattle.project_text.proofs.said.rect_of.Goals as goal

pub returns-in-Err : goal.returns-in-Err
returns-in-Err c =
    let r = c.args.form.now in
    let a : to_z w64 (of_z w64 r.x0) ≡ r.x0 = omega (arith, ints) in
    let b : to_z w64 (of_z w64 r.y0) ≡ r.y0 = omega (arith, ints) in
    let d : to_z w64 (of_z w64 r.x1) ≡ r.x1 = omega (arith, ints) in
    let e : to_z w64 (of_z w64 r.y1) ≡ r.y1 = omega (arith, ints) in
    no_rectangle (rect_said r) c.in-Err.field-0 (rw (a, b, d, e) at c.in-Err.ensures.refused)
