use Rattle.std.proofs.Common.{◌≡◌, ◌∙◌, ap, sym, subst, Option, None, Some, MatchOption, Bor}
use Rattle.topology_terms.specs.Entry.{Entry, entry_at, IsAscending}
use Rattle.error_store.specs.Keys.{Key}
use Rattle.error_store.specs.Pairs.{pair}
use Rattle.error_store.proofs.Exchange.{found_none, found_some}
use Rattle.error_store.proofs.Pairs.{run_at}
use Rattle.error_store.proofs.marks.find.Goals as goal

pub returns-in_err-run : goal.returns-in_err-run
returns-in_err-run c =
    let k = c.args.key in
    rw c.from_residual.ensures (found_none c.args.runs.now c.requires k.rule k.subject k.other (pair c.key.inside.rule c.key.inside.subject)
    (ap (λ (k : Key). pair k.rule k.subject) c.key.view_is) c.in_err-run.ensures.value)

pub find_in-requires : goal.find_in-requires
find_in-requires c = subst IsAscending (sym c.deref.ensures.value) (run_at c.args.runs.now (pair c.key.inside.rule c.key.inside.subject)
    c.in_ok-run.run'.now c.requires.runs (sym c.in_ok-run.ensures.value)).0

pub returns : goal.returns
returns c =
    let k = c.args.key in
    let same = found_some c.args.runs.now c.requires k.rule k.subject k.other (pair c.key.inside.rule c.key.inside.subject)
    c.in_ok-run.run'.now (ap (λ (k : Key). pair k.rule k.subject) c.key.view_is) c.in_ok-run.ensures.value
    ∙ ap (λ es. entry_at es k.rule k.subject k.other) (sym c.deref.ensures.value) in
    subst (λ (o : Option Entry). MatchOption c.find_in.result (o ≡ None) (λ (e : Bor Entry). o ≡ Some e.now)) (sym same) c.find_in.ensures
