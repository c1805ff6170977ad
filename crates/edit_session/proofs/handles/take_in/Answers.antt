use Rattle.std.proofs.Common.{sym, ◌∙◌}
use Rattle.edit_session.proofs.HandleLists.{kept_risen, kept_counted}
use Rattle.edit_session.proofs.handles.take_in.Goals as goal

pub returns-then-is_above-clause-kept : goal.returns-then-is_above-clause-kept
returns-then-is_above-clause-kept c hs k =
    let above = sym c.is_above.ensures ∙ c.if-is_above.true in
    rw c.push_reserved.ensures.items (kept_risen _ _ hs c.args.handle (rw c.deref.ensures.value at above) k)

pub returns-else-is_above-clause-kept : goal.returns-else-is_above-clause-kept
returns-else-is_above-clause-kept c hs k =
    let below = sym c.is_above.ensures ∙ c.if-is_above.false in
    kept_counted _ _ _ hs c.args.handle (rw c.deref.ensures.value at below) c.count_up.ensures.counts k
