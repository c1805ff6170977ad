use Rattle.std.proofs.Common.{◌≡◌, List, ◌++◌, refl, sym, ap, ◌∙◌, subst, Bool, not, ◌||◌, ◌+◌, arith, take, set}
use Rattle.std.proofs.lemmas.List.{take_all, get_or-set_other, with_items_is, length-set}
use Rattle.plane_terms.specs.Lists.{Every}
use Rattle.plane_terms.proofs.ListLemmas.{every_at}
use Rattle.grid_index.specs.declared.placed.Placed.{Placed}
use Rattle.grid_index.specs.Near.{Loses, is_placed}
use Rattle.std.specs.List.{filter, IsDistinct}
use Rattle.grid_index.specs.Squares.{same_square, IsPart, IsLeft, AreParts, AreLeftAs, IsDivided, AreAround, middles_of}
use Rattle.grid_index.proofs.Parts.{left_as, left_more, middles_set, around_moved}
use Rattle.grid_index.specs.Nodes.{NodeView, all_items}
use Rattle.grid_index.proofs.Members.{lost}
use Rattle.grid_index.proofs.Nodes.{lost_more, lost_none, lost_joined}
use Rattle.grid_index.proofs.Reaches.{all_lost}
use Rattle.grid_index.proofs.Snugs.{snug_lost}
use Rattle.grid_index.proofs.Stays.{parts_filled, divided_left, part_taken}
use Rattle.grid_index.proofs.+take.Goals as goal
use Rattle.grid_index.proofs.+take.Goals.{siblings::take_from_each-then-take, siblings::take_from_each-else-take}

pub siblings::take_from_each-loop-node-init : goal.siblings::take_from_each-loop-node-init
siblings::take_from_each-loop-node-init t c = record {
  lost = lost_none c.args.placed.now;
  rest = (refl, λ k d l. refl);
  middles = refl;
  left = λ k h. tt;
}

pub siblings::take_from_each-loop-node-preserved : goal.siblings::take_from_each-loop-node-preserved
siblings::take_from_each-loop-node-preserved t c =
    let i = c.loop-node.node-index in
    let same = sym (c.loop-node.invariant.rest.1 i c.node-item.result (omega arith)) in
    let is : c.take.result || c.loop-node.emptied ≡ c.if-take.emptied = elim c.if-take.branch [
      | siblings::take_from_each-then-take w ↦ ap (λ b. b || c.loop-node.emptied) w.if-take.true ∙ sym w.emptied-is
      | siblings::take_from_each-else-take w ↦ ap (λ b. b || c.loop-node.emptied) w.if-take.false ∙ sym w.emptied-is
    ] in
    record {
      lost = lost_more c.args.nodes.now c.loop-node.node-items i c.node-item.result c.take.new.self c.args.placed.now
          (omega arith) (omega arith) c.loop-node.invariant.lost same c.take.ensures.lost;
      rest = (
        length-set c.loop-node.node-items i c.take.new.self ∙ c.loop-node.invariant.rest.0,
        λ k d l. get_or-set_other c.loop-node.node-items i k c.take.new.self d (λ e. absurd (omega (arith, l, e)))
            ∙ c.loop-node.invariant.rest.1 k d (omega arith),
      );
      middles = middles_set c.loop-node.node-items i c.node-item.result c.take.new.self (omega arith) c.take.ensures.middle
          ∙ c.loop-node.invariant.middles;
      left = λ k h. subst (λ b. AreLeftAs b k (take (i + 1) (set c.loop-node.node-items i c.take.new.self))) is
          (left_more k c.loop-node.emptied c.take.result c.loop-node.node-items i c.take.new.self (omega arith) (c.loop-node.invariant.left k h)
          (c.take.ensures.part k (subst (IsPart k) same (every_at (IsPart k) c.args.nodes.now i c.node-item.result h (omega arith)))));
    }

pub siblings::take_from_each-returns : goal.siblings::take_from_each-returns
siblings::take_from_each-returns t c =
    let i = c.loop-node.node-index in
    record {
      lost = subst (λ ns. Loses (all_items ns) (all_items c.loop-node.node-items) c.args.placed.now) (take_all i c.args.nodes.now (omega arith))
          (subst (λ ns. Loses (all_items (take i c.args.nodes.now)) (all_items ns) c.args.placed.now)
          (take_all i c.loop-node.node-items (omega arith)) c.loop-node.invariant.lost);
      middles = c.loop-node.invariant.middles;
      left = λ k h. subst (AreLeftAs c.loop-node.emptied k) (take_all i c.loop-node.node-items (omega arith)) (c.loop-node.invariant.left k h);
    }

pub siblings::take_from-returns-then-take_from_each : goal.siblings::take_from-returns-then-take_from_each
siblings::take_from-returns-then-take_from_each t c =
    let nodes = c.args.nodes.now in
    let after = c.take_from_each.new.nodes in
    let same = with_items_is nodes after (omega arith) in
    record {
      lost = subst (λ ps. Loses (all_items nodes.items) ps c.args.placed.now) (sym c.drop_empty.ensures.same)
          (subst (λ ns. Loses (all_items nodes.items) (all_items ns) c.args.placed.now) (sym same)
          (rw c.deref_mut.ensures.value at c.take_from_each.ensures.lost));
      parts = λ k h. c.drop_empty.ensures.parts k
          (subst (Every (IsLeft k)) (sym same) (rw c.if-take_from_each.true at c.take_from_each.ensures.left k (rw c.deref_mut.ensures.value h.0)).0)
          (subst (λ ns. IsDistinct (same_square k) (middles_of ns)) (sym same) (subst (IsDistinct (same_square k))
          (sym (c.take_from_each.ensures.middles ∙ ap middles_of c.deref_mut.ensures.value)) h.1));
      around = λ k m h. c.drop_empty.ensures.around k m (subst (AreAround k m) (sym same) (around_moved k m nodes.items after
          (c.take_from_each.ensures.middles ∙ ap middles_of c.deref_mut.ensures.value) h));
    }

pub siblings::take_from-returns-else-take_from_each : goal.siblings::take_from-returns-else-take_from_each
siblings::take_from-returns-else-take_from_each t c =
    let nodes = c.args.nodes.now in
    let after = c.take_from_each.new.nodes in
    let same = with_items_is nodes after (omega arith) in
    record {
      lost = subst (λ ns. Loses (all_items nodes.items) (all_items ns) c.args.placed.now) (sym same)
          (rw c.deref_mut.ensures.value at c.take_from_each.ensures.lost);
      parts = λ k h. subst (AreParts k) (sym same) (
        (rw c.if-take_from_each.false at c.take_from_each.ensures.left k (rw c.deref_mut.ensures.value h.0)),
        subst (IsDistinct (same_square k)) (sym (c.take_from_each.ensures.middles ∙ ap middles_of c.deref_mut.ensures.value)) h.1,
      );
      around = λ k m h. subst (AreAround k m) (sym same) (around_moved k m nodes.items after
          (c.take_from_each.ensures.middles ∙ ap middles_of c.deref_mut.ensures.value) h);
    }

-- ---- one node
gone : (ps qs ss ts : List Placed) (p : Placed) → qs ≡ filter (λ q. not (is_placed p q)) ps → Loses ss ts p → Loses (ps ++ ss) (qs ++ ts) p
gone ps qs ss ts p here below = lost_joined ps qs ss ts p (lost ps qs p here) below

pub node::Node::take-reach_left-self-inside-requires : goal.node::Node::take-reach_left-self-inside-requires
node::Node::take-reach_left-self-inside-requires t c =
    let old = c.self.inside.placed.items ++ all_items c.self.inside.quarters.items in
    let new = c.drop_placed.new.list.items ++ all_items c.take_from.new.nodes.items in
    let loses = gone c.self.inside.placed.items c.drop_placed.new.list.items (all_items c.self.inside.quarters.items) (all_items c.take_from.new.nodes.items)
    c.args.placed.now c.drop_placed.ensures c.take_from.ensures.lost in
    rw (c.deref.ensures.value, c.deref-2.ensures.value) (record {
      within = all_lost c.self.inside.reach old new c.args.placed.now c.self.invariant.0 loses;
      snug = snug_lost c.self.inside.reach old new c.args.placed.now loses c.self.invariant.1;
      filled = parts_filled c.self.inside.digit c.take_from.new.nodes.items (c.take_from.ensures.parts c.self.inside.digit c.self.invariant.3.0.0).0;
    })

divided_after : (t : _) (c : goal.node::Node::take-After-self-1 t) → IsDivided c.self.inside.middle c.self.inside.digit c.drop_placed.new.list.items
    c.take_from.new.nodes.items
divided_after t c = divided_left c.self.inside.middle c.self.inside.digit (λ q. not (is_placed c.args.placed.now q)) c.self.inside.placed.items
    c.drop_placed.new.list.items c.self.inside.quarters.items c.take_from.new.nodes.items c.args.placed.now c.self.invariant.3 c.drop_placed.ensures
    c.take_from.ensures.lost c.take_from.ensures.parts c.take_from.ensures.around

lost_after : (t : _) (c : goal.node::Node::take-After-self-1 t) → Loses (c.self.inside.placed.items ++ all_items c.self.inside.quarters.items)
    (c.drop_placed.new.list.items ++ all_items c.take_from.new.nodes.items) c.args.placed.now
lost_after t c = gone c.self.inside.placed.items c.drop_placed.new.list.items (all_items c.self.inside.quarters.items)
    (all_items c.take_from.new.nodes.items) c.args.placed.now c.drop_placed.ensures c.take_from.ensures.lost

pub node::Node::take-invariant_of-self : goal.node::Node::take-invariant_of-self
node::Node::take-invariant_of-self t c =
    let within = rw (c.deref.ensures.value, c.deref-2.ensures.value) at c.reach_left-self-inside.ensures.within in
    let snug = rw (c.deref.ensures.value, c.deref-2.ensures.value) at c.reach_left-self-inside.ensures.snug in
    (within, snug, c.self.invariant.2, divided_after t c)

pub node::Node::take-returns-clause-lost : goal.node::Node::take-returns-clause-lost
node::Node::take-returns-clause-lost t c = subst
    (λ (n : NodeView). Loses n.items (c.drop_placed.new.list.items ++ all_items c.take_from.new.nodes.items) c.args.placed.now) c.self.view_is
    (lost_after t c.before)

pub node::Node::take-returns-clause-part : goal.node::Node::take-returns-clause-part
node::Node::take-returns-clause-part t c = λ k.
    let test : Placed → Bool = λ q. not (is_placed c.args.placed.now q) in
    rw (← c.self.view_is) (λ h. left_as c.is_empty.result k _ c.is_empty.ensures (part_taken test _ _ c.self.inside.placed.items c.drop_placed.new.list.items
    c.self.inside.quarters.items c.take_from.new.nodes.items c.args.placed.now refl refl refl refl refl refl c.self.invariant.3 (divided_after t c.before)
    c.drop_placed.ensures c.take_from.ensures.lost (lost_after t c.before) k h))
