use Rattle.std.proofs.Common.{◌≡◌}
use Rattle.rule_core.specs.Work.{entries_of}
use Rattle.rule_core.proofs.Rooms.{all_left, left_of}
use Rattle.rule_core.proofs.work.keep_in.Goals as goal

pub returns-in_err-begin-clause-fewer : goal.returns-in_err-begin-clause-fewer
returns-in_err-begin-clause-fewer c = left_of _ _ _ c.from_residual.result (all_left _ _ _ c.begin.ensures.same)

pub returns-clause-kept : goal.returns-clause-kept
returns-clause-kept c =
    let r : c.in-Some.keeping.region ≡ c.args.region = rw (c.in-Some.is) at c.begin.ensures.region in
    rw (r) at c.keep.ensures.kept

pub returns-clause-recent : goal.returns-clause-recent
returns-clause-recent c =
    let r : c.in-Some.keeping.region ≡ c.args.region = rw (c.in-Some.is) at c.begin.ensures.region in
    let e : c.in-Some.keeping.entries ≡ entries_of c.args.keeping.now = rw (c.in-Some.is) at c.begin.ensures.same in
    rw (r, e) at c.keep.ensures.recent
