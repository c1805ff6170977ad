use Rattle.std.proofs.Common.{◌≡◌, ◌↔◌, ◌∙◌, IsTrue, pos, ◌+ℤ◌, ◌-ℤ◌, ap, sym, subst, arith}
use Rattle.std.proofs.lemmas.Bool.{false≢true}
use Rattle.std.proofs.lemmas.Int.{ints}
use Rattle.plane_terms.specs.HalfPlane.{x_over, x_under, y_over, y_under}
use Rattle.convex_cell.proofs.Results.{if_ok}
use Rattle.sound_check.specs.Frames.{Reaches, ReachesSides}
use Rattle.sound_check.proofs.frames.reaches_sides.Goals as goal

pub returns-then-not-branch : goal.returns-then-not-branch
returns-then-not-branch c =
    let r = c.args.frame.now in
    let e : c.x_under.result ≡ x_under (r.x0 +ℤ pos 1) = c.x_under.ensures ∙ ap x_under (omega (arith, ints)) in (
      λ k. absurd (false≢true k),
      λ s. sym c.if-not-branch.true ∙ c.in_ok-reaches.ensures.1 (subst (λ h. Reaches h c.args.cells.now) (sym e) s.left),
    )

pub returns-then-not-branch-2 : goal.returns-then-not-branch-2
returns-then-not-branch-2 c =
    let r = c.args.frame.now in
    let e : c.x_over.result ≡ x_over (r.x1 -ℤ pos 1) = c.x_over.ensures ∙ ap x_over (omega (arith, ints)) in (
      λ k. absurd (false≢true k),
      λ s. sym c.if-not-branch-2.true ∙ c.in_ok-reaches-2.ensures.1 (subst (λ h. Reaches h c.args.cells.now) (sym e) s.right),
    )

pub returns-then-not-branch-3 : goal.returns-then-not-branch-3
returns-then-not-branch-3 c =
    let r = c.args.frame.now in
    let e : c.y_under.result ≡ y_under (r.y0 +ℤ pos 1) = c.y_under.ensures ∙ ap y_under (omega (arith, ints)) in (
      λ k. absurd (false≢true k),
      λ s. sym c.if-not-branch-3.true ∙ c.in_ok-reaches-3.ensures.1 (subst (λ h. Reaches h c.args.cells.now) (sym e) s.below),
    )

pub returns : goal.returns
returns c =
    let r = c.args.frame.now in
    let cs = c.args.cells.now in
    let left : c.x_under.result ≡ x_under (r.x0 +ℤ pos 1) = c.x_under.ensures ∙ ap x_under (omega (arith, ints)) in
    let right : c.x_over.result ≡ x_over (r.x1 -ℤ pos 1) = c.x_over.ensures ∙ ap x_over (omega (arith, ints)) in
    let below : c.y_under.result ≡ y_under (r.y0 +ℤ pos 1) = c.y_under.ensures ∙ ap y_under (omega (arith, ints)) in
    let above : c.y_over.result ≡ y_over (r.y1 -ℤ pos 1) = c.y_over.ensures ∙ ap y_over (omega (arith, ints)) in
    if_ok (λ yes. IsTrue yes ↔ Reaches c.y_over.result cs) (λ yes. IsTrue yes ↔ ReachesSides r cs) _ (λ yes t. (
      λ k. record {
        left = subst (λ h. Reaches h cs) left (c.in_ok-reaches.ensures.0 c.if-not-branch.false);
        right = subst (λ h. Reaches h cs) right (c.in_ok-reaches-2.ensures.0 c.if-not-branch-2.false);
        below = subst (λ h. Reaches h cs) below (c.in_ok-reaches-3.ensures.0 c.if-not-branch-3.false);
        above = subst (λ h. Reaches h cs) above (t.0 k);
      },
      λ s. t.1 (subst (λ h. Reaches h cs) (sym above) s.above),
    )) c.reaches-4.ensures
