use Rattle.std.proofs.Common.{◌≡◌, ◌∙◌, ap, refl, rules}
use Rattle.std.specs.Map.{values_of}
use Rattle.std.proofs.lemmas.Map.Entries.{filter_from_retain_pairs}
use Rattle.plane_terms.proofs.ListLemmas.{every_filter}
use Rattle.error_store.specs.Pairs.{entries_in, IsRunOf}
use Rattle.error_store.proofs.Dropping.{other_run, others_in}
use Rattle.error_store.proofs.Pairs.{Run}
use Rattle.error_store.proofs.runs.drop_from.Goals as goal

pub returns-clause-left : goal.returns-clause-left
returns-clause-left c =
    let n = c.args.rule in
    let rs = c.args.runs.now.entries in
    let kept = filter_from_retain_pairs _ (λ f. f.0.now ≡ n) (other_run n) (λ g k v b w g' i t. search rules) _ rs c.retain.new.self.entries refl
    c.retain.ensures.filtered in
    ap (λ xs. entries_in (values_of xs)) kept ∙ others_in n rs c.requires

pub returns-clause-runs : goal.returns-clause-runs
returns-clause-runs c =
    let n = c.args.rule in
    let rs = c.args.runs.now.entries in
    let kept = filter_from_retain_pairs _ (λ f. f.0.now ≡ n) (other_run n) (λ g k v b w g' i t. search rules) _ rs c.retain.new.self.entries refl
    c.retain.ensures.filtered in
    rw kept (every_filter (λ (q : Run). IsRunOf q.0 q.1.items) (other_run n) rs c.requires)
