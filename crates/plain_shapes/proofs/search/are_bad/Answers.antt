use Rattle.std.proofs.Common.{refl, inl, inr}
use Rattle.plain_shapes.proofs.search.are_bad.Goals as goal

pub returns-in-Along : goal.returns-in-Along
returns-in-Along c = (λ t. inr (c.shares.ensures.along.0 c.in-Along.is), λ b. refl)

pub returns-in-Cross : goal.returns-in-Cross
returns-in-Cross c = (λ t. inl (c.shares.ensures.cross.0 c.in-Cross.is), λ b. refl)
