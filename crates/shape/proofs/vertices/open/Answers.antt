use Rattle.std.proofs.Common.{◌≡◌, ◌∙◌, sym, ap, arith, ◌-◌, ◌<◌, ◌++◌, ◌∷◌, [], length, get_or, vec_len, Option}
use Rattle.std.specs.Option.{option_to_list}
use Rattle.plane_terms.specs.Point.{Place}
use Rattle.shape.proofs.Opening.{open_step, open_end, at_place}
use Rattle.shape.proofs.vertices.open.Goals as goal

pub loop-ring-preserved : goal.loop-ring-preserved
loop-ring-preserved c =
    let xs = c.loop-ring.ring.items in
    let a = c.index.result.now in
    let b = c.index-in-loop-ring.result.now in
    let long : 1 < length xs = omega (arith, c.loop-ring.ring.ok) in
    let some : 0 < vec_len c.loop-ring.ring = omega arith in
    let here : c.len-in-loop-ring.result - 1 ≡ length xs - 1 = omega (arith, c.loop-ring.ring.ok) in
    let last = at_place {i = c.len-in-loop-ring.result - 1} {j = length xs - 1} xs a here in
    let e = c.pop.ensures.items ∙ ap (λ (o : Option Place). c.pop.new.self.items ++ option_to_list o) (c.pop.ensures.value a some) in
    let same = at_place {i = vec_len c.loop-ring.ring - 1} {j = length xs - 1} xs a (omega (arith, c.loop-ring.ring.ok)) in
    open_step xs c.pop.new.self.items (get_or xs (length xs - 1) a) a b (e ∙ ap (λ (x : Place). c.pop.new.self.items ++ x ∷ []) same) long
    (c.index.ensures ∙ last) c.index-in-loop-ring.ensures (sym c.eq.ensures ∙ c.if-eq.true) ∙ c.loop-ring.invariant

pub returns-else-eq : goal.returns-else-eq
returns-else-eq c =
    let xs = c.loop-ring.ring.items in
    let a = c.index.result.now in
    let b = c.index-in-loop-ring.result.now in
    let long : 1 < length xs = omega (arith, c.loop-ring.ring.ok) in
    let here : c.len-in-loop-ring.result - 1 ≡ length xs - 1 = omega (arith, c.loop-ring.ring.ok) in
    let last = at_place {i = c.len-in-loop-ring.result - 1} {j = length xs - 1} xs a here in
    open_end xs a b long (c.index.ensures ∙ last) c.index-in-loop-ring.ensures (sym c.eq.ensures ∙ c.if-eq.false) ∙ c.loop-ring.invariant
