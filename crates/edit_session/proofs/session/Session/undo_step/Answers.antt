use Rattle.std.proofs.Common.{◌≢◌, ◌-◌, subst, take, drop, sym, []}
use Rattle.session_terms.specs.Kept.{KeptSession}
use Rattle.edit_session.specs.Moves.{IsUndoneOn}
use Rattle.edit_session.proofs.Swaps.{some_done, undone_by}
use Rattle.edit_session.proofs.session.Session.undo_step.Goals as goal

pub returns-clause-done : goal.returns-clause-done
returns-clause-done g c =
    let some = subst (λ (s : KeptSession). s.done ≢ []) (sym c.self.view_is) c.requires.some in
    subst (λ (s : KeptSession). IsUndoneOn g.G.Ground.swapped s (record {
      name = c.self.inside.name;
      done = take (c.self.inside.done - 1) c.swap.new.self.items;
      undone = drop (c.self.inside.done - 1) c.swap.new.self.items;
      room = c.swap.new.self.room;
    }) c.args.ground.now c.swap.new.ground) c.self.view_is
    (undone_by g.G.Ground.swapped c.self.inside.name c.self.inside.steps.room c.swap.new.self.room (c.self.inside.done - 1)
    c.self.inside.done c.self.inside.steps.items c.swap.new.self.items c.args.ground.now c.swap.new.ground
    (some_done c.self.inside.done c.self.inside.steps.items some) c.in_ok-swap.ensures.done)
