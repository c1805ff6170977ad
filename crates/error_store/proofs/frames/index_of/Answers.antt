use Rattle.std.proofs.Common.{◌≡◌, ◌∙◌, ◌++◌, inl, inr, arith, [], ap, sym, subst, append_assoc, Contains}
use Rattle.std.proofs.lemmas.List.{append-nil}
use Rattle.plane_terms.proofs.ListLemmas.{every_append, SomeOf-append_left, SomeOf-append_right}
use Rattle.topology_terms.specs.Entry.{Entry}
use Rattle.error_store.specs.Frames.{framed_of, AreFramed, AreFrames}
use Rattle.error_store.specs.Pairs.{entries_in}
use Rattle.error_store.proofs.Framing.{framed_more}
use Rattle.error_store.proofs.frames.index_of.Goals as goal

pub loop-run-init : goal.loop-run-init
loop-run-init c = ([], sym (ap entries_in (c.into_iter-run-iterator.ensures.into_iter_gives ∙ c.values-run-items.ensures.rest)), tt, λ q k. absurd (omega (arith, (rw c.new-index.ensures at k).1)))

pub loop-run-preserved : goal.loop-run-preserved
loop-run-preserved c =
    let inv = c.loop-run.invariant in
    let es = c.in-Some.run'.now.items in
    let put = c.in_ok-add_frames.ensures in (
      inv.0 ++ es,
      inv.1 ∙ (ap (λ vs. inv.0 ++ entries_in vs) c.in-Some.ensures.steps ∙ sym (append_assoc inv.0 es (entries_in c.next.new.self))),
      every_append (λ (e : Entry). Contains c.add_frames.new.index (framed_of e)) inv.0 es
          (framed_more c.loop-run.index c.add_frames.new.index inv.0 put.kept inv.2) (rw c.deref.ensures.value at put.there),
      λ q k. elim (put.only q k) [
        | inl b ↦ SomeOf-append_left (λ (e : Entry). framed_of e ≡ q) inv.0 es (inv.3 q b)
        | inr s ↦ SomeOf-append_right (λ (e : Entry). framed_of e ≡ q) inv.0 es (rw c.deref.ensures.value at s)
      ],
    )

pub returns-clause-framed : goal.returns-clause-framed
returns-clause-framed c =
    let inv = c.loop-run.invariant in
    subst (AreFramed c.loop-run.index) (sym (inv.1 ∙ (ap (λ vs. inv.0 ++ entries_in vs) c.in-None.ensures.steps.0 ∙ append-nil inv.0))) inv.2

pub returns-clause-only : goal.returns-clause-only
returns-clause-only c =
    let inv = c.loop-run.invariant in
    subst (AreFrames c.loop-run.index) (sym (inv.1 ∙ (ap (λ vs. inv.0 ++ entries_in vs) c.in-None.ensures.steps.0 ∙ append-nil inv.0))) inv.3
