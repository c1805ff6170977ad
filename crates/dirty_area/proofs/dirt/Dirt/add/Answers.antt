use Rattle.std.proofs.Common.{sym, subst, ap, ◌∙◌}
use Rattle.plane_terms.specs.Dirt.{add_dirt}
use Rattle.dirty_area.specs.Parts.{IsDirt}
use Rattle.dirty_area.specs.Blocks.{all_rects}
use Rattle.dirty_area.proofs.Calls.{dirt_added}
use Rattle.dirty_area.proofs.Numbers.{same_number}
use Rattle.dirty_area.proofs.Rooms.{index_kept}
use Rattle.dirty_area.proofs.dirt.Dirt.add.Goals as goal

pub invariant_of-self : goal.invariant_of-self
invariant_of-self c = (
  subst IsDirt (sym c.make_room.ensures.same) c.self.invariant.0,
  c.make_room.ensures.few,
  index_kept c.self.inside.blocks.items c.make_room.new.blocks.items c.self.inside.finder c.make_room.ensures.indexed c.self.invariant.2,
  same_number c.self.inside.blocks.items c.make_room.new.blocks.items c.self.inside.number c.make_room.ensures.same c.self.invariant.3,
)

pub add_in-requires-clause-indexed : goal.add_in-requires-clause-indexed
add_in-requires-clause-indexed c =
    index_kept c.self.inside.blocks.items c.make_room.new.blocks.items c.self.inside.finder c.make_room.ensures.indexed c.self.invariant.2

pub invariant_of-self-2 : goal.invariant_of-self-2
invariant_of-self-2 c = (
  dirt_added (all_rects c.self.inside.blocks.items) (all_rects c.add_in.new.blocks.items) c.args.r
      (c.add_in.ensures.added ∙ ap (λ d. add_dirt d c.args.r) c.make_room.ensures.same) c.self.invariant.0 c.corner_law.ensures,
  rw c.add_in.ensures.len c.make_room.ensures.few,
  c.add_in.ensures.indexed,
  c.add_in.ensures.number,
)

pub add_in-requires-clause-number : goal.add_in-requires-clause-number
add_in-requires-clause-number c =
    same_number c.self.inside.blocks.items c.make_room.new.blocks.items c.self.inside.number c.make_room.ensures.same c.self.invariant.3
