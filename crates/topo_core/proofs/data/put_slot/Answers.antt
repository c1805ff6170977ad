use Rattle.std.proofs.Common.{inl, inr, refl}
use Rattle.std.proofs.lemmas.Result.{on_ok_weaker}
use Rattle.validation.specs.Placed.{placed_of}
use Rattle.topo_core.proofs.data.put_slot.Goals as goal

pub returns-in-Some-clause-there : goal.returns-in-Some-clause-there
returns-in-Some-clause-there c = on_ok_weaker c.put.result (λ gains. rw c.in-Some.ensures ((gains (placed_of c.in-Some.feature.now)).1 (inr refl), tt))
    (rw c.place_of.ensures at c.put.ensures.ok)

pub returns-in-Some-clause-kept : goal.returns-in-Some-clause-kept
returns-in-Some-clause-kept c = on_ok_weaker c.put.result (λ gains q k. (gains q).1 (inl k)) c.put.ensures.ok

pub returns-in-Some-clause-only : goal.returns-in-Some-clause-only
returns-in-Some-clause-only c = on_ok_weaker c.put.result (λ gains q k. rw c.in-Some.ensures (elim ((gains q).0 k) [
  | inl m ↦ inl m
  | inr e ↦ inr (inl e)
])) (rw c.place_of.ensures at c.put.ensures.ok)

pub returns-in-Some-clause-on_grid : goal.returns-in-Some-clause-on_grid
returns-in-Some-clause-on_grid c = on_ok_weaker c.put.result (λ gains. rw c.in-Some.ensures (
  rw (c.env.ensures, c.shape.ensures) at
      c.corner_law.ensures,
  tt,
)) c.put.ensures.ok

pub returns-in-None : goal.returns-in-None
returns-in-None c = record { there = rw c.in-None.ensures tt; kept = λ q k. k; only = λ q k. inl k; on_grid = rw c.in-None.ensures tt }
