use Rattle.std.proofs.Common.{◌≡◌, ◌≢◌, [], ◌∷◌, ◌+◌, ◌++◌, sym, ap, ◌∙◌, subst, arith}
use Rattle.grid_index.specs.Near.{Gains}
use Rattle.grid_index.specs.Nodes.{NodeView, all_items}
use Rattle.grid_index.proofs.Nodes.{gained_beside}
use Rattle.grid_index.proofs.Reaches.{reach_gained}
use Rattle.grid_index.specs.Squares.{IsDivided, IsPart, IsOnGrid, AreInSquare}
use Rattle.grid_index.proofs.Snugs.{filled_gained}
use Rattle.grid_index.proofs.Squares.{square_of_same, smaller_square}
use Rattle.grid_index.proofs.Stays.{inner_part, divided_within, divided_beside, some_high, stays_grown}
use Rattle.grid_index.proofs.node.Node.put_outside.Goals as goal

pub push_reserved-requires : goal.push_reserved-requires
push_reserved-requires c = omega (arith, c.in_ok-quarters.ensures, c.in_ok-push.ensures)

held : (c : goal.After-drop-self-inside) → c.replace.result.items ++ all_items c.replace-2.result.items
    ≡ c.self.inside.placed.items ++ all_items c.self.inside.quarters.items
held c = ap (λ v. v.items ++ all_items c.replace-2.result.items) c.replace.ensures.value
    ∙ ap (λ v. c.self.inside.placed.items ++ all_items v.items) c.replace-2.ensures.value

more : (c : goal.After-drop-self-inside) → Gains (c.self.inside.placed.items ++ all_items c.self.inside.quarters.items)
    (c.replace.new.dest.items ++ all_items c.push_reserved.new.self.items) c.args.placed.now
more c = gained_beside (c.self.inside.placed.items ++ all_items c.self.inside.quarters.items) c.replace.new.dest.items c.in_ok-quarters.quarters.items
    c.push.new.self.items c.push_reserved.new.self.items c.in_ok-of.field-0 _ c.args.placed.now
    (ap (λ v. v.items) c.replace.ensures.after ∙ c.new.ensures.items) c.in_ok-quarters.ensures.items c.in_ok-push.ensures.items
    c.push_reserved.ensures.items c.in_ok-of.ensures.items (held c)

pub invariant_of-inner : goal.invariant_of-inner
invariant_of-inner c = rw (c.replace.ensures.value, c.replace-2.ensures.value) c.self.invariant

inner : (c : goal.After-drop-self-inside) → IsPart c.args.digit c.args.self.now
inner c = inner_part c.args.digit c.args.self.now c.args.middle.now c.requires.digit c.requires.part c.requires.divided
    (subst (λ (n : NodeView). AreInSquare (n.digit + 1) n.middle n.items) c.self.view_is
    (divided_within c.self.inside.middle c.self.inside.digit c.self.inside.placed.items c.self.inside.quarters.items c.self.invariant.3
    (λ e. c.requires.divided (sym (ap (λ (n : NodeView). n.height) c.self.view_is) ∙ e)))) c.requires.outside c.requires.around

beside : (c : goal.After-drop-self-inside) → c.push_reserved.new.self.items ≡ c.push.new.self.items ++ c.args.self.now ∷ []
beside c = subst (λ (n : NodeView). c.push_reserved.new.self.items ≡ c.push.new.self.items ++ n ∷ []) c.self.view_is
    (rw (c.replace.ensures.value, c.replace-2.ensures.value) at c.push_reserved.ensures.items)

empty : (c : goal.After-drop-self-inside) → c.replace.new.dest.items ≡ []
empty c = ap (λ v. v.items) c.replace.ensures.after ∙ c.new.ensures.items

divided : (c : goal.After-drop-self-inside) → IsDivided c.self.inside.middle c.args.digit c.replace.new.dest.items c.push_reserved.new.self.items
divided c = subst (λ (n : NodeView). IsDivided n.middle c.args.digit c.replace.new.dest.items c.push_reserved.new.self.items) (sym c.self.view_is)
    (divided_beside c.args.digit c.args.self.now c.in_ok-of.field-0 c.args.middle.now c.args.placed.now c.replace.new.dest.items
    c.in_ok-quarters.quarters.items c.push.new.self.items c.push_reserved.new.self.items c.requires.digit c.in_ok-of.ensures c.requires.middle
    c.requires.apart c.requires.around (inner c) c.in_ok-quarters.ensures.items c.in_ok-push.ensures.items (beside c) (empty c))

pub invariant_of-self : goal.invariant_of-self
invariant_of-self c =
    let some = subst (λ (n : NodeView). n.items ≢ []) (sym c.self.view_is) (c.requires.part.1).filled in
    let reach = reach_gained c.self.inside.reach c.join-self-inside.result (c.self.inside.placed.items ++ all_items c.self.inside.quarters.items)
    (c.replace.new.dest.items ++ all_items c.push_reserved.new.self.items) c.args.placed.now c.join-self-inside.ensures.value c.self.invariant.0
    c.self.invariant.1 some (more c) in
    (reach.0, reach.1, c.requires.digit, divided c)

gains : (c : goal.After-drop-self-inside) → Gains c.args.self.now.items (c.replace.new.dest.items ++ all_items c.push_reserved.new.self.items)
    c.args.placed.now
gains c = subst (λ (n : NodeView). Gains n.items (c.replace.new.dest.items ++ all_items c.push_reserved.new.self.items) c.args.placed.now)
    c.self.view_is (more c)

pub returns-clause-ok : goal.returns-clause-ok
returns-clause-ok c = gains c

pub returns-clause-part : goal.returns-clause-part
returns-clause-part c =
    let same : c.args.self.now.middle ≡ c.self.inside.middle = ap (λ (n : NodeView). n.middle) (sym c.self.view_is) in
    stays_grown c.args.self.now _ c.args.middle.now c.args.placed.now c.requires.middle (gains c)
    (subst IsOnGrid same (c.requires.part.1).on_grid) (λ k t. square_of_same k c.args.self.now.middle c.self.inside.middle same)
    (some_high c.replace.new.dest.items c.push_reserved.new.self.items (empty c) (filled_gained c.args.self.now.items
    (c.replace.new.dest.items ++ all_items c.push_reserved.new.self.items) c.args.placed.now (gains c)))
    (λ k part t. smaller_square c.args.digit k c.args.self.now.middle c.args.middle.now c.requires.apart t)
