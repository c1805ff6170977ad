use Rattle.std.proofs.Common.{arith, sym, ◌∙◌}
use Rattle.std.proofs.lemmas.Int.{ints}
use Rattle.std.proofs.lemmas.Bool.{false≢true}
use Rattle.plain_topology.proofs.PlaceFacts.{held_points}
use Rattle.plain_topology.proofs.dirt.holds_place.Goals as goal

pub returns-then-is_between : goal.returns-then-is_between
returns-then-is_between c = λ p i.
    let h = held_points c.args.rect c.args.place p i in
    let across = c.is_between.ensures.0 c.if-is_between.true in (
      (λ b.
          let up = c.is_between-then-is_between.ensures.0 b in
          h.0 (record {
            left = omega (arith, ints, across.0, c.x0.ensures.value, c.x.ensures.value);
            right = omega (arith, ints, across.1, c.x1.ensures.value, c.x.ensures.value);
            below = omega (arith, ints, up.0, c.y0.ensures.value, c.y.ensures.value);
            above = omega (arith, ints, up.1, c.y1.ensures.value, c.y.ensures.value);
          })),
      (λ r.
          let held = h.1 r in
          c.is_between-then-is_between.ensures.1 (
            omega (arith, ints, held.below, c.y0.ensures.value, c.y.ensures.value),
            omega (arith, ints, held.above, c.y1.ensures.value, c.y.ensures.value),
          )),
    )

pub returns-else-is_between : goal.returns-else-is_between
returns-else-is_between c = λ p i.
    let h = held_points c.args.rect c.args.place p i in (
      (λ b. absurd (false≢true (sym c.if-is_between.false ∙ b))),
      (λ r.
          let held = h.1 r in
          c.is_between.ensures.1 (
            omega (arith, ints, held.left, c.x0.ensures.value, c.x.ensures.value),
            omega (arith, ints, held.right, c.x1.ensures.value, c.x.ensures.value),
          )),
    )
