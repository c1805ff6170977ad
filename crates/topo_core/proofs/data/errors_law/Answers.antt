use Rattle.std.proofs.Common.{◌∙◌, ap, subst, sym}
use Rattle.plane_terms.specs.Lists.{Every}
use Rattle.plane_terms.proofs.ListLemmas.{every_append}
use Rattle.error_store.specs.Pairs.{entries_in}
use Rattle.topo_core.specs.Topologies.{IsDrawn}
use Rattle.topo_core.proofs.data.errors_law.Goals as goal

pub loop-run-init : goal.loop-run-init
loop-run-init c = subst (Every IsDrawn) (ap entries_in (c.into_iter-run-iterator.ensures.into_iter_gives ∙ c.values-run-items.ensures.rest) ∙ c.by_pair.ensures.value)

pub loop-run-preserved : goal.loop-run-preserved
loop-run-preserved c = λ left.
    let first = c.in-Some.ensures.steps in
    let run = rw c.deref.ensures.value at c.run_law.ensures in
    c.loop-run.invariant (subst (λ runs. Every IsDrawn (entries_in runs)) (sym first)
    (every_append IsDrawn c.in-Some.run'.now.items (entries_in c.next.new.self) run left))

pub returns : goal.returns
returns c =
    let none = c.in-None.ensures.steps.0 in
    c.loop-run.invariant (subst (λ runs. Every IsDrawn (entries_in runs)) (sym none) tt)
