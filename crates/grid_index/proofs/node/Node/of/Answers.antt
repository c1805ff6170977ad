use Rattle.std.proofs.Common.{[], ◌≡◌, inr, refl, ◌∷◌, ◌++◌, ap, ◌∙◌, sym, subst, arith}
use Rattle.grid_index.specs.Nodes.{all_items}
use Rattle.grid_index.proofs.Parts.{none_divided}
use Rattle.grid_index.proofs.Reaches.{one_within}
use Rattle.grid_index.specs.Nodes.{AreWithin, IsSnug}
use Rattle.grid_index.proofs.Snugs.{snug_one}
use Rattle.grid_index.proofs.node.Node.of.Goals as goal

pub invariant_of-result : goal.invariant_of-result
invariant_of-result c =
    let p = c.args.placed.now in
    let one : c.push.new.self.items ++ all_items c.new.result.items ≡ p ∷ [] =
    ap (λ ps. ps ++ all_items c.new.result.items) (c.in_ok-push.ensures.items ∙ ap (λ ps. ps ++ p ∷ []) c.in_ok-list.ensures.items)
    ∙ ap (λ ns. p ∷ all_items ns) c.new.ensures.items in (
      subst (AreWithin p.rect) (sym one) (one_within p),
      inr (subst (IsSnug p.rect) (sym one) (snug_one p (p ∷ []) (0, omega arith, refl))),
      omega arith,
      none_divided c.of.result 0 c.push.new.self.items c.new.result.items c.new.ensures.items,
    )
