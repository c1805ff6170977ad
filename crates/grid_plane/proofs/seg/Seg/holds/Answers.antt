use Rattle.std.proofs.Common.{◌≡◌, sym, ◌∙◌, rules, true, false}
use Rattle.std.proofs.lemmas.Bool.{false≢true}
use mir.Syntax.{w64}
use mir.Val.{SFits}
use Rattle.plane_terms.specs.Segment.{comes_before}
use Rattle.grid_plane.proofs.Numbers.{bits_zero, zero_bits}
use Rattle.cell_laws.proofs.AtPlaces.{turn_on}
use Rattle.grid_plane.proofs.PlacesOn.{off_before, off_after, on_within, on_at}
use Rattle.grid_plane.proofs.seg.Seg.holds.Goals as goal

pub returns-then-comes_before : goal.returns-then-comes_before
returns-then-comes_before c =
    let s = c.args.self.now in
    let e : comes_before c.args.p s.lo ≡ true = rw c.lo.ensures.value at (sym c.comes_before.ensures ∙ c.if-comes_before.true) in
    (λ t. absurd (false≢true t), λ o. absurd (off_before s _ c.lo.ensures.valid.proper e ((on_at s c.args.p).1 o)))

pub returns-then-comes_before-2 : goal.returns-then-comes_before-2
returns-then-comes_before-2 c =
    let s = c.args.self.now in
    let e : comes_before s.hi c.args.p ≡ true = rw c.hi.ensures.value at (sym c.comes_before-2.ensures ∙ c.if-comes_before-2.true) in
    (λ t. absurd (false≢true t), λ o. absurd (off_after s _ c.lo.ensures.valid.proper e ((on_at s c.args.p).1 o)))

pub returns : goal.returns
returns c =
    let s = c.args.self.now in
    let first : comes_before c.args.p s.lo ≡ false = rw c.lo.ensures.value at (sym c.comes_before.ensures ∙ c.if-comes_before.false) in
    let second : comes_before s.hi c.args.p ≡ false = rw c.hi.ensures.value at (sym c.comes_before-2.ensures
    ∙ c.if-comes_before-2.false) in
    let fits : SFits w64 c.turn.result = search rules in (
      λ t. (on_at s c.args.p).0 (on_within s _ c.lo.ensures.valid.proper first second (sym c.turn.ensures
          ∙ bits_zero c.turn.result fits t)),
      λ o. zero_bits c.turn.result (c.turn.ensures ∙ turn_on s _ ((on_at s c.args.p).1 o)),
    )
