use Rattle.std.proofs.Common.{◌≡◌, true, false, refl, subst, inl, to_z, of_z, w64, arith}
use Rattle.std.proofs.lemmas.Bool.{false≢true}
use Rattle.std.proofs.lemmas.Int.{ints}
use Rattle.plane_terms.specs.HalfPlane.{IsHalfPlane}
use Rattle.project_text.specs.Reading.{left, half_said}
use Rattle.project_text.proofs.Halves.{HalvesRead, one_more, one_wrong, longer, not_empty}
use Rattle.project_text.proofs.cells.read_cell.Goals as goal
use Rattle.project_text.proofs.cells.read_cell.Goals.{in-Some-of+in_ok-push-in-Some-of, in-None}

pub returns-then-not-is_empty : goal.returns-then-not-is_empty
returns-then-not-is_empty c =
    let l = c.loop-more in
    let r : HalvesRead (left c.args.rest.now) l.halves.items l.within false l.left.now =
    subst (λ m. HalvesRead (left c.args.rest.now) l.halves.items l.within m l.left.now) c.loop-more-test.false l.invariant in
    inl (
      longer (left c.args.rest.now) l.halves.items l.within l.left.now r
          (not_empty l.left.now c.is_empty.result c.is_empty.ensures c.if-not-is_empty.true),
      refl,
    )

pub loop-more-preserved : goal.loop-more-preserved
loop-more-preserved c =
    let l = c.loop-more in
    let f = c.in-Some.form in
    let r : HalvesRead (left c.args.rest.now) l.halves.items l.within true l.left.now =
    subst (λ m. HalvesRead (left c.args.rest.now) l.halves.items l.within m l.left.now) c.loop-more-test.true l.invariant in
    let x : to_z w64 (of_z w64 f.a) ≡ f.a = omega (arith, ints) in
    let y : to_z w64 (of_z w64 f.b) ≡ f.b = omega (arith, ints) in
    let z : to_z w64 (of_z w64 f.c) ≡ f.c = omega (arith, ints) in
    elim c.match-of.branch [
      | in-Some-of+in_ok-push-in-Some-of w ↦
          let same : w.in-Some-of.half ≡ half_said f = rw (x, y, z) at w.in-Some-of.ensures.value in
          let valid : IsHalfPlane (half_said f) = rw (x, y, z) at (w.in-Some-of.ensures.made.0 refl) in
          rw (w.halves-is, w.within-is) (one_more (left c.args.rest.now) l.halves.items w.push.new.self.items l.within l.left.now f
          w.in-Some-of.half r
          c.in-Some.ensures.said same valid w.in_ok-push-in-Some-of.ensures.items)
      | in-None w ↦
          let out : IsHalfPlane (half_said f) → false ≡ true = rw (x, y, z) at w.in-None.ensures.made.1 in
          rw (w.halves-is, w.within-is) (one_wrong (left c.args.rest.now) l.halves.items l.within l.left.now f r c.in-Some.ensures.said
          (λ v. false≢true (out v)))
    ]
