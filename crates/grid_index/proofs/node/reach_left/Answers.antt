use Rattle.std.proofs.Common.{◌≡◌, ◌⊎◌, inl, inr, [], ◌++◌, sym, ◌∙◌, subst}
use Rattle.grid_index.specs.Nodes.{all_items, AreWithin, IsSnug, IsReach}
use Rattle.grid_index.proofs.Reaches.{reach_both, reach_kept}
use Rattle.grid_index.proofs.Snugs.{snug_left}
use Rattle.grid_index.proofs.node.reach_left.Goals as goal

pub returns-then-not-touches_side-clause-snug : goal.returns-then-not-touches_side-clause-snug
returns-then-not-touches_side-clause-snug c = elim c.requires.snug [
  | inl e ↦ inl e
  | inr s ↦ inr (snug_left c.args.reach.now c.args.gone.now (c.args.placed.now ++ all_items c.args.quarters.now)
      (sym c.touches_side.ensures ∙ c.if-not-touches_side.true) s)
]

kept : (c : goal.After-unwrap_or) → let left = c.args.placed.now ++ all_items c.args.quarters.now in
    AreWithin c.unwrap_or.result left × ((left ≡ []) ⊎ IsSnug c.unwrap_or.result left)
kept c =
    let left = c.args.placed.now ++ all_items c.args.quarters.now in
    reach_kept c.reach_of_both-left.result c.args.reach.now c.unwrap_or.result left c.unwrap_or.ensures
    (subst (λ o. IsReach o left) (sym c.reach_of_both-left.ensures)
    (reach_both c.reach_of.result c.reach_of_nodes.result c.args.placed.now (all_items c.args.quarters.now) c.reach_of.ensures
    c.reach_of_nodes.ensures))

pub returns-clause-within : goal.returns-clause-within
returns-clause-within c = (kept c).0

pub returns-clause-snug : goal.returns-clause-snug
returns-clause-snug c = (kept c).1
