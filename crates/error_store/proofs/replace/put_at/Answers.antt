use Rattle.std.proofs.Common.{◌≡◌, Some, arith}
use Rattle.std.specs.BTreeMap.{get, insert_entry}
use Rattle.error_store.specs.Pairs.{pair_cmp}
use Rattle.error_store.proofs.Exchange.{runs_set, run_fits, changed_by, this_run}
use Rattle.error_store.proofs.replace.put_at.Goals as goal

pub overflow_sub-result : goal.overflow_sub-result
overflow_sub-result c =
    let w = c.in-Some.old in
    let m = c.args.runs.now in
    let there : Some w ≡ get pair_cmp m c.args.pair = rw c.in-Some.ensures at c.insert-put.ensures.old in
    let fits = run_fits c.args.pair m w there in
    omega (arith, c.len.ensures, w.ok.0, fits, c.requires.number)

pub returns-in-Some-clause-runs : goal.returns-in-Some-clause-runs
returns-in-Some-clause-runs c =
    let m = c.args.runs.now in
    let n = c.insert-put.new.self in
    let p = c.args.pair in
    let v = c.args.run in
    let set = rw c.in-Some.ensures at c.insert-put.ensures.updates in
    runs_set p (Some v) m n c.insert-put.ensures.ordered set.0 (λ w e. this_run p v w c.requires.own e) c.requires.runs.runs

pub returns-in-Some-clause-number : goal.returns-in-Some-clause-number
returns-in-Some-clause-number c =
    let w = c.in-Some.old in
    let m = c.args.runs.now in
    let n = c.insert-put.new.self in
    let p = c.args.pair in
    let v = c.args.run in
    let there : Some w ≡ get pair_cmp m p = rw c.in-Some.ensures at c.insert-put.ensures.old in
    let put : n.entries ≡ insert_entry pair_cmp m.entries p v = rw c.in-Some.ensures at c.insert-put.ensures.entries in
    let fits = run_fits p m w there in
    let changed = changed_by p v w m n c.requires.runs.ordered put there in
    omega (arith, c.len.ensures, c.len-count.ensures, w.ok.0, v.ok.0, fits, changed, c.requires.number)
