use Rattle.std.proofs.Common.{[], ◌∷◌, ◌++◌, ◌∙◌, ap, refl, sym, subst, append_assoc}
use Rattle.std.specs.BTreeMap.{keys}
use Rattle.std.specs.List.Sorted.{IsStrictlySortedBy}
use Rattle.std.specs.Map.{keys_of, values_of}
use Rattle.std.proofs.lemmas.List.{append-nil}
use Rattle.error_store.specs.Pairs.{pair_cmp, entries_in, all_entries}
use Rattle.error_store.proofs.Joined.{above_front}
use Rattle.error_store.proofs.runs.copy_of.Goals as goal

pub loop-pair-init : goal.loop-pair-init
loop-pair-init c = rw (c.new-copy.ensures.empty, c.into_iter-pair-iterator.ensures.into_iter_gives.0)
    (record { keys = refl; list = refl; runs = tt; left = c.requires })

pub push_run-requires : goal.push_run-requires
push_run-requires c =
    let inv = c.loop-pair.invariant in
    let steps = c.in-Some.ensures.steps in
    record {
      above = above_front (keys c.loop-pair.copy) c.in-Some.pair.now (keys_of c.next.new.self)
          (subst (IsStrictlySortedBy pair_cmp) (sym (rw steps at inv.keys)) c.into_iter-pair-iterator.ensures.into_iter_gives.5);
      run = rw (c.in_ok-copy_of.ensures, c.deref.ensures.value) (rw steps at inv.left).0;
      runs = inv.runs;
    }

pub loop-pair-preserved : goal.loop-pair-preserved
loop-pair-preserved c =
    let inv = c.loop-pair.invariant in
    let steps = c.in-Some.ensures.steps in
    let put = c.in_ok-push_run.ensures in
    let es = c.in-Some.run'.now.items in
    let rest = entries_in (values_of c.next.new.self) in
    let same = c.in_ok-copy_of.ensures ∙ c.deref.ensures.value in
    record {
      keys = ap (λ ks. ks ++ keys_of c.next.new.self) put.keys
          ∙ (append_assoc (keys c.loop-pair.copy) (c.in-Some.pair.now ∷ []) (keys_of c.next.new.self) ∙ (rw steps at inv.keys));
      list = ap (λ xs. xs ++ rest) (put.list ∙ ap (λ xs. all_entries c.loop-pair.copy ++ xs) same)
          ∙ (append_assoc (all_entries c.loop-pair.copy) es rest ∙ (rw steps at inv.list));
      runs = put.runs;
      left = (rw steps at inv.left).1;
    }

pub returns : goal.returns
returns c = record {
  list = sym (append-nil (all_entries c.loop-pair.copy)) ∙ (rw c.in-None.ensures.steps.0 at c.loop-pair.invariant.list);
  runs = c.loop-pair.invariant.runs;
}
