use Rattle.std.proofs.Common.{◌++◌, ◌∙◌, ap}
use Rattle.std.specs.Prelude.{flat_map}
use Rattle.error_store.specs.Pairs.{entries_in}
use Rattle.error_store.proofs.Listed.{said_first}
use Rattle.text_out.proofs.Pushing.{left_more, left_done}
use Rattle.project_text.specs.Pushed.{error_texts}
use Rattle.project_text.proofs.write.push_errors.Goals as goal

pub loop-run-init : goal.loop-run-init
loop-run-init c =
    ap (λ es. c.args.out.now.items ++ flat_map error_texts es)
    (ap entries_in (c.into_iter-run-iterator.ensures.into_iter_gives ∙ c.values-run-items.ensures.rest) ∙ c.by_pair.ensures.value)

pub loop-run-preserved : goal.loop-run-preserved
loop-run-preserved c =
    let run = c.in-Some.run'.now in
    left_more c.loop-run.out.items c.push_run.new.out.items (flat_map error_texts run.items) _ _ _
    (said_first error_texts c.loop-run.run-iterator c.next.new.self run c.in-Some.ensures.steps) c.loop-run.invariant
    (rw c.deref.ensures.value at c.in_ok-push_run.ensures)

pub returns : goal.returns
returns c =
    let none = c.in-None.ensures.steps.0 in
    left_done _ _ (rw none at c.loop-run.invariant)
