use Rattle.std.proofs.Common.{rules}
use Rattle.std.proofs.lemmas.Fn.{always_returns_same}
use Rattle.error_store.proofs.Finding.{entry_order, ordered_as, rises, place_found, not_there}
use Rattle.error_store.proofs.list.place_of.Goals as goal

pub returns-in-Ok : goal.returns-in-Ok
returns-in-Ok c =
    place_found c.args.entries.now c.args.key c.in-Ok.place c.requires c.in-Ok.ensures.bound
    (c.in-Ok.ensures.position (entry_order c.args.key) (always_returns_same _ _ _ (λ a r f k. search (rules, ordered_as))))

pub returns-in-Err : goal.returns-in-Err
returns-in-Err c =
    not_there c.args.entries.now c.args.key c.in-Err.field-0
    (c.in-Err.ensures.position (entry_order c.args.key) (always_returns_same _ _ _ (λ a r f k. search (rules, ordered_as)))
    (rises c.args.entries.now c.args.key c.requires))
