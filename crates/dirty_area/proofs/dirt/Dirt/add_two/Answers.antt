use Rattle.std.proofs.Common.{sym, subst, ap, ◌∙◌}
use Rattle.std.specs.Option.{option_to_list}
use Rattle.plane_terms.specs.Dirt.{add_all}
use Rattle.dirty_area.specs.Parts.{IsDirt}
use Rattle.dirty_area.specs.Blocks.{all_rects}
use Rattle.dirty_area.proofs.Calls.{some_added}
use Rattle.dirty_area.proofs.Numbers.{same_number}
use Rattle.dirty_area.proofs.Rooms.{index_kept}
use Rattle.dirty_area.proofs.dirt.Dirt.add_two.Goals as goal

pub invariant_of-self : goal.invariant_of-self
invariant_of-self c = (
  subst IsDirt (sym c.make_room.ensures.same) c.self.invariant.0,
  c.make_room.ensures.few,
  index_kept c.self.inside.blocks.items c.make_room.new.blocks.items c.self.inside.finder c.make_room.ensures.indexed c.self.invariant.2,
  same_number c.self.inside.blocks.items c.make_room.new.blocks.items c.self.inside.number c.make_room.ensures.same c.self.invariant.3,
)

pub add_some-requires-clause-indexed : goal.add_some-requires-clause-indexed
add_some-requires-clause-indexed c =
    index_kept c.self.inside.blocks.items c.make_room.new.blocks.items c.self.inside.finder c.make_room.ensures.indexed c.self.invariant.2

pub add_some-requires-2-clause-rects : goal.add_some-requires-2-clause-rects
add_some-requires-2-clause-rects c =
    let first = some_added (all_rects c.self.inside.blocks.items) (all_rects c.add_some.new.blocks.items) c.args.first
    (c.add_some.ensures.added ∙ ap (λ d. add_all d (option_to_list c.args.first)) c.make_room.ensures.same)
    c.corner_laws.ensures c.self.invariant.0 in
    first.on_grid

pub invariant_of-self-2 : goal.invariant_of-self-2
invariant_of-self-2 c =
    let first = some_added (all_rects c.self.inside.blocks.items) (all_rects c.add_some.new.blocks.items) c.args.first
    (c.add_some.ensures.added ∙ ap (λ d. add_all d (option_to_list c.args.first)) c.make_room.ensures.same)
    c.corner_laws.ensures c.self.invariant.0 in (
      some_added (all_rects c.add_some.new.blocks.items) (all_rects c.add_some-2.new.blocks.items) c.args.second c.add_some-2.ensures.added
          c.corner_laws-2.ensures first,
      rw (c.add_some-2.ensures.len, c.add_some.ensures.len) c.make_room.ensures.few,
      c.add_some-2.ensures.indexed,
      c.add_some-2.ensures.number,
    )

pub add_some-requires-2-clause-room : goal.add_some-requires-2-clause-room
add_some-requires-2-clause-room c = c.add_some.ensures.room 1 c.in_ok-make_room.ensures.room

pub add_some-requires-clause-number : goal.add_some-requires-clause-number
add_some-requires-clause-number c =
    same_number c.self.inside.blocks.items c.make_room.new.blocks.items c.self.inside.number c.make_room.ensures.same c.self.invariant.3
