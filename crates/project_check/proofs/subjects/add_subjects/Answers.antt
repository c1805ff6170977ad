use Rattle.std.proofs.Common.{◌≡◌, ◌∙◌, ◌++◌, ap, append_assoc, map, sym}
use Rattle.std.proofs.lemmas.List.{append-nil, map-append}
use Rattle.topology_terms.specs.Entry.{Entry}
use Rattle.error_store.specs.Pairs.{entries_in}
use Rattle.project_check.proofs.subjects.add_subjects.Goals as goal

pub loop-run-init : goal.loop-run-init
loop-run-init c = ap (λ es. c.args.subjects.now.items ++ map (λ (e : Entry). e.subject) es)
    (ap entries_in (c.into_iter-run-iterator.ensures.into_iter_gives ∙ c.values-run-items.ensures.rest) ∙ c.by_pair.ensures.value)

pub loop-run-preserved : goal.loop-run-preserved
loop-run-preserved c =
    let of = map (λ (e : Entry). e.subject) in
    let out = c.loop-run.subjects.items in
    let run = c.in-Some.run'.now.items in
    let left = entries_in c.next.new.self in
    let first = c.in-Some.ensures.steps in
    let added : c.add_run.new.subjects.items ≡ out ++ of run = rw c.deref.ensures.value at c.in_ok-add_run.ensures in
    ap (λ ns. ns ++ of left) added
    ∙ (append_assoc out (of run) (of left)
    ∙ (ap (λ ns. out ++ ns) (sym (map-append (λ (e : Entry). e.subject) run left))
    ∙ (ap (λ runs. out ++ of (entries_in runs)) (sym first) ∙ c.loop-run.invariant)))

pub returns : goal.returns
returns c =
    let none = c.in-None.ensures.steps.0 in
    sym (append-nil c.loop-run.subjects.items)
    ∙ (ap (λ runs. c.loop-run.subjects.items ++ map (λ (e : Entry). e.subject) (entries_in runs)) (sym none) ∙ c.loop-run.invariant)
