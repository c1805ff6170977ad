use Rattle.std.proofs.Common.{◌≡◌, ◌<◌, length, [], ap, ◌∙◌, subst}
use Rattle.plane_terms.specs.Lists.{Every}
use Rattle.dirty_area.specs.Blocks.{runs}
use Rattle.dirty_area.specs.Cuts.{Left}
use Rattle.dirty_area.specs.declared.left.Change.{Change}
use Rattle.dirty_area.proofs.Changes.{all_left}
use Rattle.dirty_area.proofs.left.Left.into_changes.Goals as goal

pub returns-clause-left : goal.returns-clause-left
returns-clause-left c =
    let l = c.self.inside in
    let same : l.next ≡ length (runs l.blocks.now) = rw (← c.self.view_is) at c.requires.next in
    let none : l.begun.items ≡ [] = ap (λ (k : Left). k.begun) c.self.view_is ∙ c.requires.begun in
    rw (← c.self.view_is) (all_left (runs l.blocks.now) l.changes.items l.next l.begun.items same none)

pub returns-clause-places : goal.returns-clause-places
returns-clause-places c =
    let l = c.self.inside in
    let same : l.next ≡ length (runs l.blocks.now) = rw (← c.self.view_is) at c.requires.next in
    rw (← c.self.view_is) (subst (λ k. Every (λ (h : Change). h.place < k) l.changes.items) same c.self.invariant.2)
