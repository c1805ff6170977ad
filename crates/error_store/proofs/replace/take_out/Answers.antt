use Rattle.std.proofs.Common.{None, arith}
use Rattle.error_store.proofs.Exchange.{runs_set, run_fits, fewer_by, no_run}
use Rattle.error_store.proofs.replace.take_out.Goals as goal

pub overflow_sub-result : goal.overflow_sub-result
overflow_sub-result c =
    let v = c.in-Some.run' in
    let fits = run_fits c.args.pair c.args.runs.now v c.in-Some.ensures.value in
    omega (arith, c.len.ensures, v.ok.0, fits, c.requires.number)

pub returns-in-Some-clause-runs : goal.returns-in-Some-clause-runs
returns-in-Some-clause-runs c = runs_set c.args.pair None c.args.runs.now c.remove.new.self c.in-Some.ensures.ordered
    c.in-Some.ensures.updates.0 (λ v e. no_run c.args.pair v e) c.requires.runs.runs

pub returns-in-Some-clause-number : goal.returns-in-Some-clause-number
returns-in-Some-clause-number c =
    let v = c.in-Some.run' in
    let left = fewer_by c.args.pair c.args.runs.now c.remove.new.self v c.in-Some.ensures.entries c.in-Some.ensures.value in
    omega (arith, c.len.ensures, v.ok.0, left, c.requires.number)
