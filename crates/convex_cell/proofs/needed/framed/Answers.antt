use Rattle.convex_cell.proofs.needed.framed.Goals as goal

pub push_others-requires-clause-framed : goal.push_others-requires-clause-framed
push_others-requires-clause-framed c = λ p a. (c.in_ok-needed.ensures p).0 a

pub returns : goal.returns
returns c = λ p. (
  λ a. ((c.in_ok-push_others.ensures.points p).0 a).1,
  λ h. (c.in_ok-push_others.ensures.points p).1 ((c.in_ok-needed.ensures p).1 (c.requires.round p h), h),
)
