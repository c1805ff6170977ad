use Rattle.std.proofs.Common.{◌≡◌, ◌≢◌, ◌≤◌, ◌<◌, ◌+◌, ◌*◌, ◌^◌, true, false, [], ◌++◌, length, refl, sym, ap, ◌∙◌, subst, arith, rules}
use Rattle.std.specs.Prelude.{OnOk, OnErr}
use Rattle.std.proofs.lemmas.Result.{on_ok_weaker, on_err_weaker}
use Rattle.grid_index.specs.Near.{HoldsSame, Gains}
use Rattle.grid_index.specs.Nodes.{NodeView, all_items}
use Rattle.grid_index.proofs.Nodes.{gained_at, same_at, gained_right, same_joined, held_itself, none_below, some_at, on_err}
use Rattle.grid_index.proofs.Reaches.{all_same, reach_gained}
use Rattle.grid_index.proofs.Snugs.{snug_same, filled_same, filled_gained}
use Rattle.grid_index.specs.Squares.{same_square, IsOnGrid}
use Rattle.grid_index.proofs.Squares.{square_self, square_within, square_around, apart_some}
use Rattle.grid_index.proofs.Parts.{may_take, parts_put, around_put, parts_through, around_through}
use Rattle.grid_index.proofs.Stays.{not_alone, filled_high, some_high, divided_put, stays_same, stays_grown}
use Rattle.grid_index.proofs.+put.Goals as goal

-- ---- into one of the quarters
more : (t : _) (c : goal.node::Node::put-After-self-1 t) → Gains (c.self.inside.placed.items ++ all_items c.self.inside.quarters.items)
    (c.self.inside.placed.items ++ all_items c.put_in.new.nodes.items) c.args.placed.now
more t c = gained_right c.self.inside.placed.items (all_items c.self.inside.quarters.items) (all_items c.put_in.new.nodes.items) c.args.placed.now
    c.in_ok-put_in.ensures.ok

same : (t : _) (c : goal.node::Node::put-After-from_residual t) → HoldsSame (c.self.inside.placed.items ++ all_items c.self.inside.quarters.items)
    (c.self.inside.placed.items ++ all_items c.put_in.new.nodes.items)
same t c = same_joined c.self.inside.placed.items c.self.inside.placed.items (all_items c.self.inside.quarters.items) (all_items c.put_in.new.nodes.items)
    (held_itself c.self.inside.placed.items) c.in_err-put_in.ensures.err

pub node::Node::put-invariant_of-self : goal.node::Node::put-invariant_of-self
node::Node::put-invariant_of-self t c =
    let old = c.self.inside.placed.items ++ all_items c.self.inside.quarters.items in
    let new = c.self.inside.placed.items ++ all_items c.put_in.new.nodes.items in
    let some : c.self.inside.quarters.items ≡ [] → ⊥ = λ e. let l = ap length e in grind arith in (
      all_same c.self.inside.reach old new c.self.invariant.0 (same t c),
      snug_same c.self.inside.reach old new (same t c) c.self.invariant.1,
      c.self.invariant.2,
      divided_put c.self.inside.middle c.args.middle.now c.self.inside.digit c.self.inside.placed.items c.self.inside.quarters.items
          c.put_in.new.nodes.items c.self.invariant.3 some c.put_in.ensures.parts c.put_in.ensures.around
          (sym c.is_round.ensures ∙ c.if-not-is_round.false),
    )

pub node::Node::put-invariant_of-self-2 : goal.node::Node::put-invariant_of-self-2
node::Node::put-invariant_of-self-2 t c =
    let filled = subst (λ (n : NodeView). n.items ≢ []) (sym c.self.view_is) (c.requires.part.1).filled in
    let some : c.self.inside.quarters.items ≡ [] → ⊥ = λ e. let l = ap length e in grind arith in
    let reach = reach_gained c.self.inside.reach c.join-self-inside.result (c.self.inside.placed.items ++ all_items c.self.inside.quarters.items)
    (c.self.inside.placed.items ++ all_items c.put_in.new.nodes.items) c.args.placed.now c.join-self-inside.ensures.value c.self.invariant.0
    c.self.invariant.1 filled (more t c) in
    let divided = divided_put c.self.inside.middle c.args.middle.now c.self.inside.digit c.self.inside.placed.items c.self.inside.quarters.items
    c.put_in.new.nodes.items c.self.invariant.3 some c.put_in.ensures.parts c.put_in.ensures.around
    (sym c.is_round.ensures ∙ c.if-not-is_round.false) in
    (reach.0, reach.1, c.self.invariant.2, divided)

pub node::Node::put-returns-in_err-put_in-clause-part : goal.node::Node::put-returns-in_err-put_in-clause-part
node::Node::put-returns-in_err-put_in-clause-part t c = λ k.
    let some : c.self.inside.quarters.items ≡ [] → ⊥ = λ e. let l = ap length e in grind arith in
    let placed = c.self.inside.placed.items in
    let none = not_alone c.self.inside.middle c.self.inside.digit placed c.self.inside.quarters.items c.self.invariant.3
    (filled_high c.self.inside.quarters.items some) in
    let filled = subst (λ (n : NodeView). n.items ≢ []) (sym c.self.view_is) (c.requires.part.1).filled in
    let high = some_high placed c.put_in.new.nodes.items none (filled_same (placed ++ all_items c.self.inside.quarters.items)
    (placed ++ all_items c.put_in.new.nodes.items) (same t c) filled) in
    rw (← c.self.view_is) (stays_same _ _ c.args.middle.now (same t c) refl refl (filled_high c.self.inside.quarters.items some) high k)

pub node::Node::put-returns-clause-part : goal.node::Node::put-returns-clause-part
node::Node::put-returns-clause-part t c = λ k.
    let some : c.self.inside.quarters.items ≡ [] → ⊥ = λ e. let l = ap length e in grind arith in
    let placed = c.self.inside.placed.items in
    let none = not_alone c.self.inside.middle c.self.inside.digit placed c.self.inside.quarters.items c.self.invariant.3
    (filled_high c.self.inside.quarters.items some) in
    let high = some_high placed c.put_in.new.nodes.items none (filled_gained (placed ++ all_items c.self.inside.quarters.items)
    (placed ++ all_items c.put_in.new.nodes.items) c.args.placed.now (more t c)) in
    let on_grid = subst (λ (n : NodeView). IsOnGrid n.middle) (sym c.self.view_is) (c.requires.part.1).on_grid in
    rw (← c.self.view_is) (stays_grown _ _ c.args.middle.now c.args.placed.now c.requires.middle (more t c) on_grid
    (λ j s. square_self j c.self.inside.middle) high (λ j part s. part.smaller (filled_high c.self.inside.quarters.items some)) k)

-- ---- into a larger square
pub node::Node::put-ilog2-digit-requires : goal.node::Node::put-ilog2-digit-requires
node::Node::put-ilog2-digit-requires t c = apart_some (c.self.inside.digit + 1) c.self.inside.middle c.args.middle.now c.apart.result c.apart.ensures
    (sym c.is_round.ensures ∙ c.if-not-is_round.true)

pub node::Node::put-put_outside-requires-clause-divided : goal.node::Node::put-put_outside-requires-clause-divided
node::Node::put-put_outside-requires-clause-divided t c = λ low.
    let none = ap length (none_below c.self.inside.quarters.items (ap (λ (n : NodeView). n.height) c.self.view_is ∙ low)) in grind arith

pub node::Node::put-put_outside-requires-clause-apart : goal.node::Node::put-put_outside-requires-clause-apart
node::Node::put-put_outside-requires-clause-apart t c = subst (λ (n : NodeView). same_square c.ilog2-digit.result n.middle c.args.middle.now ≡ false)
    c.self.view_is (square_within c.ilog2-digit.result c.self.inside.middle c.args.middle.now
    (subst (λ n. 2 ^ c.ilog2-digit.result ≤ n) c.apart.ensures c.ilog2-digit.ensures.power_le))

pub node::Node::put-put_outside-requires-clause-around : goal.node::Node::put-put_outside-requires-clause-around
node::Node::put-put_outside-requires-clause-around t c = subst
    (λ (n : NodeView). same_square (c.ilog2-digit.result + 1) n.middle c.args.middle.now ≡ true)
    c.self.view_is (square_around c.ilog2-digit.result c.self.inside.middle c.args.middle.now
    (subst (λ n. n < 2 * 2 ^ c.ilog2-digit.result) c.apart.ensures c.ilog2-digit.ensures.next_power_gt))

pub node::Node::put-returns-clause-ok : goal.node::Node::put-returns-clause-ok
node::Node::put-returns-clause-ok t c = subst
    (λ (n : NodeView). Gains n.items (c.self.inside.placed.items ++ all_items c.put_in.new.nodes.items) c.args.placed.now)
    c.self.view_is (more t c)

pub node::Node::put-returns-in_err-put_in-clause-err : goal.node::Node::put-returns-in_err-put_in-clause-err
node::Node::put-returns-in_err-put_in-clause-err t c = on_err c.from_residual.result _ (subst
    (λ (n : NodeView). HoldsSame n.items (c.self.inside.placed.items ++ all_items c.put_in.new.nodes.items))
    c.self.view_is (same t c))

-- ---- one node of several
pub siblings::put_at-returns-clause-ok : goal.siblings::put_at-returns-clause-ok
siblings::put_at-returns-clause-ok t c = on_ok_weaker c.put.result
    (λ g. gained_at c.args.nodes.now.items c.args.i c.index_mut.result.now c.put.new.self c.args.placed.now c.requires.within g)
    (subst (λ (n : NodeView). OnOk c.put.result (Gains n.items c.put.new.self.items c.args.placed.now)) c.index_mut.ensures.value
    c.put.ensures.ok)

pub siblings::put_at-returns-clause-err : goal.siblings::put_at-returns-clause-err
siblings::put_at-returns-clause-err t c = on_err_weaker c.put.result
    (λ g. same_at c.args.nodes.now.items c.args.i c.index_mut.result.now c.put.new.self c.requires.within g)
    (subst (λ (n : NodeView). OnErr c.put.result (HoldsSame n.items c.put.new.self.items)) c.index_mut.ensures.value c.put.ensures.err)

pub siblings::put_in-put_at-requires : goal.siblings::put_in-put_at-requires
siblings::put_in-put_at-requires t c =
    let beside = rw c.deref.ensures.value at c.in-Some.ensures.some in
    let within = some_at c.args.nodes.now.items c.in-Some.i _ beside in
    let part = may_take c.args.digit c.args.middle.now c.args.nodes.now.items c.in-Some.i c.requires.parts beside in
    (search rules, (within, (c.requires.middle, (c.requires.on_grid, part))))

pub siblings::put_in-returns-in-Some-clause-parts : goal.siblings::put_in-returns-in-Some-clause-parts
siblings::put_in-returns-in-Some-clause-parts t c = parts_put c.args.digit c.args.middle.now c.args.nodes.now.items c.in-Some.i
    c.put_at.new.nodes.items c.requires.parts (rw c.deref.ensures.value at c.in-Some.ensures.some) c.put_at.ensures.part

pub siblings::put_in-returns-in-Some-clause-around : goal.siblings::put_in-returns-in-Some-clause-around
siblings::put_in-returns-in-Some-clause-around t c = around_put c.args.digit c.args.middle.now c.args.nodes.now.items c.in-Some.i
    c.put_at.new.nodes.items c.requires.parts (rw c.deref.ensures.value at c.in-Some.ensures.some) c.put_at.ensures.part

pub siblings::put_in-returns-in-None-clause-parts : goal.siblings::put_in-returns-in-None-clause-parts
siblings::put_in-returns-in-None-clause-parts t c = parts_through c.add_node.result c.args.digit c.args.nodes.now.items c.add_node.new.nodes.items
    c.args.placed.now c.args.middle.now (omega (arith, c.requires.digit)) c.requires.middle (rw c.deref.ensures.value at c.in-None.ensures.none)
    c.requires.parts c.add_node.ensures.added c.add_node.ensures.err

pub siblings::put_in-returns-in-None-clause-around : goal.siblings::put_in-returns-in-None-clause-around
siblings::put_in-returns-in-None-clause-around t c = around_through c.add_node.result (c.args.digit + 1) c.args.nodes.now.items
    c.add_node.new.nodes.items c.args.placed.now c.args.middle.now c.requires.middle c.add_node.ensures.added c.add_node.ensures.err
