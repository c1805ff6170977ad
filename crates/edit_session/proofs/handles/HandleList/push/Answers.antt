use Rattle.std.proofs.Common.{◌≤◌, arith, subst, sym}
use Rattle.edit_session.specs.HandleLists.{HandleItems}
use Rattle.edit_session.proofs.HandleLists.{kept_few}
use Rattle.edit_session.proofs.handles.HandleList.push.Goals as goal

pub take_in-requires-clause-few : goal.take_in-requires-clause-few
take_in-requires-clause-few c =
    let room : 1 ≤ c.self.inside.room = subst (λ (v : HandleItems). 1 ≤ v.room) (sym c.self.view_is) c.requires.room in
    omega (
      arith,
      room,
      kept_few c.self.inside.rising.items c.self.inside.others c.self.inside.items.items c.args.handle c.self.invariant.0,
      c.self.inside.items.ok,
      c.self.inside.items.small,
      c.self.invariant.1,
    )
