use Rattle.std.proofs.Common.{◌+◌, arith, subst, take, drop}
use Rattle.session_terms.specs.Kept.{KeptSession}
use Rattle.edit_session.specs.Moves.{IsRedoneOn}
use Rattle.edit_session.proofs.Swaps.{redone_by}
use Rattle.edit_session.proofs.session.Session.redo_step.Goals as goal

pub returns-clause-done : goal.returns-clause-done
returns-clause-done g c = subst (λ (s : KeptSession). IsRedoneOn g.G.Ground.swapped s (record {
  name = c.self.inside.name;
  done = take (c.self.inside.done + 1) c.swap.new.self.items;
  undone = drop (c.self.inside.done + 1) c.swap.new.self.items;
  room = c.swap.new.self.room;
}) c.args.ground.now c.swap.new.ground) c.self.view_is
    (redone_by g.G.Ground.swapped c.self.inside.name c.self.inside.steps.room c.swap.new.self.room c.self.inside.done
    (c.self.inside.done + 1) c.self.inside.steps.items c.swap.new.self.items c.args.ground.now c.swap.new.ground (omega arith)
    c.in_ok-swap.ensures.done)
