use Rattle.std.proofs.Common.{◌↔◌, ◌∙◌, IsTrue, sym}
use Rattle.std.proofs.lemmas.Bool.{false≢true}
use Rattle.convex_cell.proofs.Results.{if_ok}
use Rattle.sound_check.specs.Rest.{IsWithinOff, AreSameOff}
use Rattle.sound_check.proofs.within.are_same_off.Goals as goal

pub returns-then-not-branch : goal.returns-then-not-branch
returns-then-not-branch c = (
  λ k. absurd (false≢true k),
  λ s. sym c.if-not-branch.true ∙ c.in_ok-is_within.ensures.1 (λ p n i. (s p n).0 i),
)

pub returns : goal.returns
returns c =
    let d = c.args.dirt.now in
    let a = c.args.first.now in
    let b = c.args.second.now in
    let there = c.in_ok-is_within.ensures.0 c.if-not-branch.false in
    if_ok (λ yes. IsTrue yes ↔ IsWithinOff d b a) (λ yes. IsTrue yes ↔ AreSameOff d a b) _ (λ yes t. (
      λ k p n. (λ i. there p n i, λ i. t.0 k p n i),
      λ s. t.1 (λ p n i. (s p n).1 i),
    )) c.is_within-2.ensures
