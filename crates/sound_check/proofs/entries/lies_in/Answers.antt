use Rattle.std.proofs.Common.{◌↔◌, ◌≡◌, IsTrue, Some, None}
use Rattle.topology_terms.specs.Entry.{entry_at}
use Rattle.convex_cell.proofs.Results.{if_ok}
use Rattle.sound_check.specs.Rest.{IsWithinOff}
use Rattle.sound_check.specs.Pairs.{LiesIn}
use Rattle.sound_check.proofs.Pairs.{lies_there, lies_nowhere}
use Rattle.sound_check.proofs.entries.lies_in.Goals as goal

pub returns-in-Some : goal.returns-in-Some
returns-in-Some c =
    let d = c.args.dirt.now in
    let e = c.args.e.now in
    let x = c.in-Some.other.now in
    let es = c.args.others.now in
    let at : entry_at es e.rule e.subject e.other ≡ Some x = rw c.key.ensures at c.in-Some.ensures in
    let t = lies_there d es e x at in
    if_ok (λ yes. IsTrue yes ↔ IsWithinOff d c.cells.result.now c.cells-in-Some.result.now) (λ yes. IsTrue yes ↔ LiesIn d es e) _ (λ yes u.
    let v = rw (c.cells.ensures, c.cells-in-Some.ensures) at u in (λ k. t.0 (v.0 k), λ l. v.1 (t.1 l))) c.is_within.ensures

pub returns-in-None : goal.returns-in-None
returns-in-None c =
    let d = c.args.dirt.now in
    let e = c.args.e.now in
    let es = c.args.others.now in
    let at : entry_at es e.rule e.subject e.other ≡ None = rw c.key.ensures at c.in-None.ensures in
    let t = lies_nowhere d es e at in
    if_ok (λ yes. IsTrue yes ↔ IsWithinOff d c.cells-in-None.result.now c.new.result) (λ yes. IsTrue yes ↔ LiesIn d es e) _ (λ yes u.
    let v = rw (c.cells-in-None.ensures, c.new.ensures) at u in (λ k. t.0 (v.0 k), λ l. v.1 (t.1 l))) c.is_within-in-None-2.ensures
