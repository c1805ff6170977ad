use Rattle.std.proofs.Common.{rules, ◌≡◌, sym, ◌∙◌, length, take, ◌-◌, subst}
use Rattle.std.specs.Vec.{vec_len}
use Rattle.edit_session.proofs.HandleLists.{kept_less, kept_lower}
use Rattle.edit_session.proofs.handles.take_out.Goals as goal

pub returns-then-not-count_down-clause-kept : goal.returns-then-not-count_down-clause-kept
returns-then-not-count_down-clause-kept c hs k =
    let len : length c.args.rising.now.items ≡ vec_len c.args.rising.now = search rules in
    kept_lower c.args.rising.now.items c.pop.new.self.items _ _ hs c.args.handle (sym c.count_down.ensures.found ∙ c.if-not-count_down.true)
    c.count_down.ensures.counts (subst (λ n. c.pop.new.self.items ≡ take (n - 1) c.args.rising.now.items) (sym len) c.pop.ensures.rest) k

pub returns-else-not-count_down-clause-kept : goal.returns-else-not-count_down-clause-kept
returns-else-not-count_down-clause-kept c hs k =
    kept_less _ _ _ hs c.args.handle (sym c.count_down.ensures.found ∙ c.if-not-count_down.false) c.count_down.ensures.counts k
