use Rattle.std.proofs.Common.{◌≡◌, [], ◌∷◌, ◌++◌, sym, subst, ap, ◌∙◌}
use Rattle.plane_terms.specs.Dirt.{add_dirt}
use Rattle.dirty_area.specs.Parts.{IsDirt}
use Rattle.dirty_area.specs.Blocks.{all_rects}
use Rattle.dirty_area.proofs.Calls.{dirt_added}
use Rattle.dirty_area.proofs.Numbers.{same_number}
use Rattle.dirty_area.proofs.Rooms.{index_kept}
use Rattle.dirty_area.proofs.dirt.Dirt.add_loose.Goals as goal

pub invariant_of-self : goal.invariant_of-self
invariant_of-self c = (
  subst IsDirt (sym c.make_room.ensures.same) c.self.invariant.0,
  c.make_room.ensures.few,
  index_kept c.self.inside.blocks.items c.make_room.new.blocks.items c.self.inside.finder c.make_room.ensures.indexed c.self.invariant.2,
  same_number c.self.inside.blocks.items c.make_room.new.blocks.items c.self.inside.number c.make_room.ensures.same c.self.invariant.3,
)

pub put_last-requires-clause-indexed : goal.put_last-requires-clause-indexed
put_last-requires-clause-indexed c =
    index_kept c.self.inside.blocks.items c.make_room.new.blocks.items c.self.inside.finder c.make_room.ensures.indexed c.self.invariant.2

pub invariant_of-self-2 : goal.invariant_of-self-2
invariant_of-self-2 c =
    let d = all_rects c.self.inside.blocks.items in
    let last : add_dirt d c.args.r ≡ d ++ c.args.r ∷ [] = rw (← c.self.view_is) at c.requires in (
      dirt_added d (all_rects c.put_last.new.blocks.items) c.args.r
          (c.put_last.ensures.put ∙ (ap (λ e. e ++ c.args.r ∷ []) c.make_room.ensures.same ∙ sym last)) c.self.invariant.0 c.corner_law.ensures,
      rw c.put_last.ensures.len c.make_room.ensures.few,
      c.put_last.ensures.indexed,
      c.put_last.ensures.number,
    )

pub put_last-requires-clause-number : goal.put_last-requires-clause-number
put_last-requires-clause-number c =
    same_number c.self.inside.blocks.items c.make_room.new.blocks.items c.self.inside.number c.make_room.ensures.same c.self.invariant.3
