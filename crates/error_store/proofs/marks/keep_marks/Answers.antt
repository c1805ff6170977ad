use Rattle.std.proofs.Common.{arith, get_or, subst, sym}
use Rattle.topology_terms.specs.Entry.{Entry}
use Rattle.error_store.specs.Pairs.{all_entries}
use Rattle.error_store.specs.Exchange.{IsRemarkedFrom}
use Rattle.error_store.proofs.Remarking.{marking_goes_on, remarked_by}
use Rattle.error_store.proofs.marks.keep_marks.Goals as goal

pub loop-e-preserved : goal.loop-e-preserved
loop-e-preserved c =
    let old = all_entries c.args.runs.now in
    let i = c.loop-e.e-index in
    let now = c.loop-e.fresh in
    let f = c.e-item.result in
    let n = c.set_mark.new.self in
    marking_goes_on old i c.args.fresh.now now f n c.loop-e-test.true (omega (arith, c.loop-e-test.true, c.loop-e.auto.fresh)) c.e-item.is
    (subst (λ (x : Entry). IsRemarkedFrom old x n) (sym c.e-item.is)
    (remarked_by old (get_or now i f) n c.keeps_mark-marked.result c.set_mark.ensures c.keeps_mark-marked.ensures)) c.loop-e.invariant
