use Rattle.std.proofs.Common.{[], ◌∷◌, ◌∙◌, ap}
use Rattle.std.specs.Map.{keys_of, values_of}
use Rattle.plane_terms.proofs.ListLemmas.{every_append}
use Rattle.error_store.specs.Pairs.{entries_in, IsRunOf}
use Rattle.error_store.proofs.Joined.{insert_above, joined_more, keys_more}
use Rattle.error_store.proofs.Pairs.{Run}
use Rattle.error_store.proofs.runs.push_run.Goals as goal

pub returns-clause-list : goal.returns-clause-list
returns-clause-list c =
    let rs = c.args.runs.now.entries in
    ap (λ xs. entries_in (values_of xs)) (c.in_ok-insert.ensures.entries ∙ insert_above rs c.args.pair c.args.run c.requires.above)
    ∙ joined_more rs c.args.pair c.args.run

pub returns-clause-keys : goal.returns-clause-keys
returns-clause-keys c =
    let rs = c.args.runs.now.entries in
    ap keys_of (c.in_ok-insert.ensures.entries ∙ insert_above rs c.args.pair c.args.run c.requires.above)
    ∙ keys_more rs c.args.pair c.args.run

pub returns-clause-runs : goal.returns-clause-runs
returns-clause-runs c =
    let rs = c.args.runs.now.entries in
    rw (c.in_ok-insert.ensures.entries, insert_above rs c.args.pair c.args.run c.requires.above)
    (every_append (λ (q : Run). IsRunOf q.0 q.1.items) rs ((c.args.pair, c.args.run) ∷ []) c.requires.runs (c.requires.run, tt))
