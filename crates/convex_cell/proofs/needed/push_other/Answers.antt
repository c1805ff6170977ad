use Rattle.std.proofs.Common.{Some}
use Rattle.std.proofs.lemmas.List.Elements.{All-pop, All-push, All-same}
use Rattle.plane_terms.specs.HalfPlane.{Holds}
use Rattle.convex_cell.proofs.needed.push_other.Goals as goal

pub returns-then-holds_within-clause-points : goal.returns-then-holds_within-clause-points
returns-then-holds_within-clause-points c = λ p. (λ a. (a, c.if-holds_within.ensures p (c.requires.framed p a)), λ k. k.0)

pub returns-clause-points : goal.returns-clause-points
returns-clause-points c =
    let e = c.in_ok-push.ensures.items in
    λ p. (
      λ a. All-pop (λ h. Holds h p) _ _ (Some c.args.half.now) e a,
      λ k. All-same (λ h. Holds h p) _ _ e (All-push (λ h. Holds h p) _ c.args.half.now k.0 k.1),
    )
