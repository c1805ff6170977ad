use Rattle.std.proofs.Common.{◌≡◌, ◌≤◌, [], ap, ◌∙◌, arith}
use Rattle.dirty_area.specs.Blocks.{runs}
use Rattle.dirty_area.specs.Cuts.{Left}
use Rattle.dirty_area.proofs.Changes.{gone_to}
use Rattle.dirty_area.proofs.left.Left.go_to.Goals as goal

pub returns-clause-left : goal.returns-clause-left
returns-clause-left c =
    let l = c.self.inside in
    let none : l.begun.items ≡ [] = ap (λ (k : Left). k.begun) c.self.view_is ∙ c.requires.begun in
    let next : l.next ≤ c.args.place = omega (arith, ap (λ (k : Left). k.next) c.self.view_is, c.requires.next) in
    rw (← c.self.view_is) (gone_to (runs l.blocks.now) l.changes.items l.next c.args.place l.begun.items next c.self.invariant.2 none)
