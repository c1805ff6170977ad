use Rattle.std.proofs.Common.{refl}
use Rattle.error_store.proofs.Marking.{mark_set, may_mark, placed, stays_ascending, alike}
use Rattle.error_store.proofs.list.mark_in.Goals as goal

pub returns-then-marked-on-clause-same : goal.returns-then-marked-on-clause-same
returns-then-marked-on-clause-same c = λ r a b. alike c.args.entries.now.items c.in-Some.place c.index_mut-entry.result.now
    c.index_mut-entry.result.now.marked c.index_mut-entry.ensures.value r a b

pub returns-clause-may : goal.returns-clause-may
returns-clause-may c =
    let es = c.args.entries.now.items in
    let k = c.args.key in
    let e = c.index_mut-entry.result.now in
    let is = c.index_mut-entry.ensures.value in
    let z = placed es es c.deref.result.now c.in-Some.place k.rule k.subject k.other e refl c.deref.ensures.value c.in-Some.ensures is in
    may_mark es k.rule k.subject k.other c.args.on c.marked.result e z.1 c.marked.ensures c.if-marked-on.false

pub returns-clause-set : goal.returns-clause-set
returns-clause-set c =
    let es = c.args.entries.now.items in
    let k = c.args.key in
    let e = c.index_mut-entry.result.now in
    let is = c.index_mut-entry.ensures.value in
    let z = placed es es c.deref.result.now c.in-Some.place k.rule k.subject k.other e refl c.deref.ensures.value c.in-Some.ensures is in
    rw c.set_mark.ensures (mark_set es c.in-Some.place e c.args.on k.rule k.subject k.other z.0 is c.requires z.1)

pub returns-clause-same : goal.returns-clause-same
returns-clause-same c = (returns-clause-set c).entries

pub returns-clause-ascending : goal.returns-clause-ascending
returns-clause-ascending c =
    rw c.set_mark.ensures (stays_ascending c.args.entries.now.items c.in-Some.place c.index_mut-entry.result.now c.args.on
    c.index_mut-entry.ensures.value c.requires)
