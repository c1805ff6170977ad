use Rattle.std.proofs.Common.{◌∙◌}
use Rattle.feature_store.specs.Keeps.{HasSimpleSides, IsGiven, IsOfClass}
use Rattle.feature_store.proofs.Lists.{exchange_here, exchange_gap, each_here, each_gap}
use Rattle.feature_store.proofs.slots.exchange.Goals as goal

pub returns-in-Ok : goal.returns-in-Ok
returns-in-Ok c =
    let x = exchange_here c.args.handle c.args.slots.now.items c.swap_at.new.slots.items c.in-Ok.place c.swap_at.new.kept
    c.args.kept.now (rw c.deref.ensures.value at c.in-Ok.ensures) c.requires.ascending c.requires.own c.swap_at.ensures.kept
    c.swap_at.ensures.list in
    record {
      set = x.set;
      stood = x.stood;
      ascending = x.ascending;
      below = x.below;
      live = x.live;
      given = λ n all new. each_here (IsGiven n) c.args.handle c.args.slots.now.items c.swap_at.new.slots.items c.in-Ok.place
          c.args.kept.now (rw c.deref.ensures.value at c.in-Ok.ensures) all new c.swap_at.ensures.list;
      kinds = λ cs all new. each_here (IsOfClass cs) c.args.handle c.args.slots.now.items c.swap_at.new.slots.items c.in-Ok.place
          c.args.kept.now (rw c.deref.ensures.value at c.in-Ok.ensures) all new c.swap_at.ensures.list;
      simple = λ all new. each_here HasSimpleSides c.args.handle c.args.slots.now.items c.swap_at.new.slots.items c.in-Ok.place
          c.args.kept.now (rw c.deref.ensures.value at c.in-Ok.ensures) all new c.swap_at.ensures.list;
    }

pub returns-in-Err : goal.returns-in-Err
returns-in-Err c =
    let x = exchange_gap c.args.handle c.args.slots.now.items c.put_at.new.slots.items c.in-Err.place c.args.kept.now
    (rw c.deref.ensures.value at c.in-Err.ensures) c.requires.ascending c.requires.own c.put_at.ensures.list in
    record {
      set = x.set;
      stood = c.put_at.ensures.kept ∙ x.stood;
      ascending = x.ascending;
      below = x.below;
      live = rw c.put_at.ensures.kept x.live;
      given = λ n all new. each_gap (IsGiven n) c.args.slots.now.items c.put_at.new.slots.items c.in-Err.place c.args.kept.now all new
          c.put_at.ensures.list;
      kinds = λ cs all new. each_gap (IsOfClass cs) c.args.slots.now.items c.put_at.new.slots.items c.in-Err.place c.args.kept.now all new
          c.put_at.ensures.list;
      simple = λ all new. each_gap HasSimpleSides c.args.slots.now.items c.put_at.new.slots.items c.in-Err.place c.args.kept.now all new
          c.put_at.ensures.list;
    }
