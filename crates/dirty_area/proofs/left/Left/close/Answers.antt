use Rattle.std.proofs.Common.{◌≡◌, ◌<◌, length, []}
use Rattle.dirty_area.specs.Blocks.{runs}
use Rattle.dirty_area.specs.declared.left.Change.{Change}
use Rattle.dirty_area.proofs.Changes.{closed}
use Rattle.dirty_area.proofs.left.Left.close.Goals as goal

pub returns-clause-left : goal.returns-clause-left
returns-clause-left c =
    let l = c.self.inside in
    let short : l.next < length (runs l.blocks.now) = rw (← c.self.view_is) at c.requires in
    let change : Change = record { place = l.next; block = c.in_ok-block.block } in
    let whole : c.in_ok-block.block.items ≡ l.begun.items = rw c.replace-begun.ensures.value at c.in_ok-block.ensures in
    let none : c.replace-begun.new.dest.items ≡ [] = cc in
    rw (← c.self.view_is) (closed (runs l.blocks.now) l.changes.items c.push.new.self.items l.next change l.begun.items c.replace-begun.new.dest.items
    short c.in_ok-push.ensures.items (cc) whole none)
