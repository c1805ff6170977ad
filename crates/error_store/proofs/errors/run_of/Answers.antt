use Rattle.std.proofs.Common.{Some, sym}
use Rattle.error_store.proofs.Pairs.{run_at, none_at_pair, at_run}
use Rattle.error_store.proofs.errors.run_of.Goals as goal

pub returns-in-Some : goal.returns-in-Some
returns-in-Some c =
    let m = c.args.runs.now in
    let v = c.in-Some.run'.now in
    let own = run_at m c.args.pair v c.requires (sym c.in-Some.ensures.value) in
    rw c.deref.ensures.value (record {
      ascending = own.0;
      own = own.1;
      same = at_run m c.order_law.ensures.ordered c.requires c.args.pair (Some v) (sym c.in-Some.ensures.value);
    })

pub returns-in-None : goal.returns-in-None
returns-in-None c = record {
  ascending = tt;
  own = tt;
  same = none_at_pair c.args.runs.now c.order_law.ensures.ordered c.requires c.args.pair (sym c.in-None.ensures.value);
}
