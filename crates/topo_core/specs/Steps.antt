-- How often a validation tries the rules, and how much it looks at.
--
-- IsCounted w p old done       a count of judgements `old` became `done`, by the judgements of the subjects that the window selects
-- IsCountWithin w p old done   it rose by no more than those
-- IsAskedBy w p m n      from the count m to n there are no more steps than questions about the dirty parts of the window allow, and to see what
--                        is near each selected feature that a rule judges, in an index of the live features of p and nothing else
use Rattle.std.specs.Prelude.{◌≡◌, ℕ, ◌≤◌, List}
use Rattle.plane_terms.specs.Lists.{IsThose}
use Rattle.plane_terms.specs.Rectangle.{Rectangle}
use Rattle.topology_terms.specs.Feature.{Feature}
use Rattle.topology_terms.specs.Project.{Project}
use Rattle.topology_terms.specs.Changes.{IsSelected}
use Rattle.topology_terms.specs.Counts.{raised, judged_of}
use Rattle.grid_index.specs.declared.placed.Placed.{Placed}
use Rattle.validation.specs.Placed.{ArePlaced}
use Rattle.validation.specs.Asked.{dirty_parts, IsAskedFor}
use Rattle.topo_core.specs.Topologies.{AreLive}

pub record IsCounted (w : Rectangle) (p : Project) (old done : ℕ) : Type 0 where
  pub subjects : List Feature
  pub those : IsThose (λ (f : Feature). IsSelected p w f.handle) p.features subjects
  pub count : done ≡ raised old (judged_of p.rules subjects)

abbrev pub IsCountWithin : Rectangle → Project → ℕ → ℕ → Type 0
IsCountWithin w p old done = (subjects : List Feature) → IsThose (λ (f : Feature). IsSelected p w f.handle) p.features subjects
    → done ≤ raised old (judged_of p.rules subjects)

pub record IsAskedBy (w : Rectangle) (p : Project) (m n : ℕ) : Type 0 where
  pub placed : List Placed
  pub all : ArePlaced placed p.features
  pub live : AreLive placed p.features
  pub steps : (subjects : List Feature) → IsThose (λ (f : Feature). IsSelected p w f.handle) p.features subjects
      → IsAskedFor (record { in_force = p.rules; features = p.features; placed = placed }) (dirty_parts p.dirt w) subjects m n
