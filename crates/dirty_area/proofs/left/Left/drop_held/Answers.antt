use Rattle.std.proofs.Common.{◌≡◌, not, rules, take, false}
use Rattle.std.proofs.lemmas.Fn.{filter_same}
use Rattle.plane_terms.specs.Lists.{Every}
use Rattle.plane_terms.specs.Rectangle.{is_within}
use Rattle.dirty_area.specs.Blocks.{runs, joined}
use Rattle.dirty_area.proofs.Changes.{left_without, places_trimmed}
use Rattle.dirty_area.proofs.left.Left.drop_held.Goals as goal

pub invariant_of-self : goal.invariant_of-self
invariant_of-self c =
    let l = c.self.inside in (
      c.self.invariant.0,
      c.self.invariant.1,
      places_trimmed c.args.r.now l.next l.changes.items c.drop_held_of_each.new.changes.items
          c.drop_held_of_each.ensures c.self.invariant.2,
    )

pub returns-clause-left : goal.returns-clause-left
returns-clause-left c =
    let l = c.self.inside in
    let none : Every (λ s. is_within s c.args.r.now ≡ false) (joined (take l.next (runs l.blocks.now))) = rw (← c.self.view_is) at c.requires in
    let after = filter_same _ (λ s. not (is_within s c.args.r.now)) _ (λ x b q h. search rules) _ _ c.retain.ensures.filtered in
    rw (← c.self.view_is) (left_without c.args.r.now l.next (runs l.blocks.now) l.changes.items c.drop_held_of_each.new.changes.items l.begun.items
    c.retain.new.self.items c.drop_held_of_each.ensures c.self.invariant.2 none after)
