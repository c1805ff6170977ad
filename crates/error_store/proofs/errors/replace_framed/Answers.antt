use Rattle.std.proofs.Common.{◌∙◌, inl, inr, sym, subst, Contains}
use Rattle.std.specs.Prelude.{vec_len}
use Rattle.std.proofs.lemmas.Bool.{eqb-true}
use Rattle.std.proofs.lemmas.List.{nil_from_length}
use Rattle.error_store.specs.FrameSets.{HasPlace}
use Rattle.error_store.specs.Pairs.{all_entries}
use Rattle.error_store.proofs.Framing.{framed_more, framed_kept, framed_replaced, framed_these, framed_same, frames_same, frame_of_these, these_frames, back_same}
use Rattle.error_store.proofs.Staying.{frames_replaced, frames_stay, nothing_replaced, those_standing}
use Rattle.error_store.proofs.errors.replace_framed.Goals as goal

pub returns-then-is_empty-2-clause-replaced : goal.returns-then-is_empty-2-clause-replaced
returns-then-is_empty-2-clause-replaced c =
    let gone = c.in_ok-gone.gone.frames in
    let fresh = c.args.fresh in
    nothing_replaced c.args.selected.now (all_entries c.args.runs.now) fresh.items
    (sym (rw c.items-subjects.ensures.value at c.in_ok-gone.ensures.frames)
    ∙ nil_from_length gone.items (sym gone.ok.0 ∙ eqb-true (vec_len gone) 0 (sym c.is_empty.ensures ∙ c.if-is_empty.true)))
    (nil_from_length fresh.items (sym fresh.ok.0 ∙ eqb-true (vec_len fresh) 0 (sym c.is_empty-then-is_empty.ensures ∙ c.if-is_empty-2.true)))

pub put_frames-requires : goal.put_frames-requires
put_frames-requires c = rw c.deref-6.ensures.value (those_standing c.args.selected.now (all_entries c.args.runs.now) c.args.fresh.items
    c.in_ok-gone.gone.frames.items c.in_ok-came.came.items c.args.frames.now (HasPlace c.in_ok-standing.standing) c.requires.new
    (rw c.items-subjects.ensures.value at c.in_ok-gone.ensures.frames) (rw c.deref.ensures.value at c.in_ok-came.ensures) c.requires.framed
    c.requires.only (rw (c.deref-4.ensures.value, c.deref-5.ensures.value) at c.in_ok-standing.ensures))

pub returns-in_err-put_frames-clause-framed : goal.returns-in_err-put_frames-clause-framed
returns-in_err-put_frames-clause-framed c = framed_same c.args.frames.now c.put_frames.new.index (all_entries c.args.runs.now)
    c.in_err-put_frames.ensures.err c.requires.framed

pub returns-in_err-put_frames-clause-only : goal.returns-in_err-put_frames-clause-only
returns-in_err-put_frames-clause-only c = frames_same c.args.frames.now c.put_frames.new.index (all_entries c.args.runs.now)
    c.in_err-put_frames.ensures.err c.requires.only

pub returns-in_default-clause-framed : goal.returns-in_default-clause-framed
returns-in_default-clause-framed c =
    let stand = those_standing c.args.selected.now (all_entries c.args.runs.now) c.args.fresh.items c.in_ok-gone.gone.frames.items
    c.in_ok-came.came.items c.args.frames.now (HasPlace c.in_ok-standing.standing) c.requires.new
    (rw c.items-subjects.ensures.value at c.in_ok-gone.ensures.frames) (rw c.deref.ensures.value at c.in_ok-came.ensures) c.requires.framed
    c.requires.only (rw (c.deref-4.ensures.value, c.deref-5.ensures.value) at c.in_ok-standing.ensures) in
    rw c.in_default.ensures.err (framed_same c.args.frames.now c.drop_frames.new.index (all_entries c.args.runs.now)
    (back_same c.args.frames.now c.put_frames.new.index c.drop_frames.new.index c.in_ok-came.came.items (HasPlace c.in_ok-standing.standing)
    stand c.put_frames.ensures.kept (rw c.deref-6.ensures.value at c.put_frames.ensures.only)
    (rw c.deref-in_default.ensures.value at c.drop_frames.ensures.left) (rw c.deref-in_default.ensures.value at c.drop_frames.ensures.kept))
    c.requires.framed)

pub returns-in_default-clause-only : goal.returns-in_default-clause-only
returns-in_default-clause-only c =
    let stand = those_standing c.args.selected.now (all_entries c.args.runs.now) c.args.fresh.items c.in_ok-gone.gone.frames.items
    c.in_ok-came.came.items c.args.frames.now (HasPlace c.in_ok-standing.standing) c.requires.new
    (rw c.items-subjects.ensures.value at c.in_ok-gone.ensures.frames) (rw c.deref.ensures.value at c.in_ok-came.ensures) c.requires.framed
    c.requires.only (rw (c.deref-4.ensures.value, c.deref-5.ensures.value) at c.in_ok-standing.ensures) in
    rw c.in_default.ensures.err (frames_same c.args.frames.now c.drop_frames.new.index (all_entries c.args.runs.now)
    (back_same c.args.frames.now c.put_frames.new.index c.drop_frames.new.index c.in_ok-came.came.items (HasPlace c.in_ok-standing.standing)
    stand c.put_frames.ensures.kept (rw c.deref-6.ensures.value at c.put_frames.ensures.only)
    (rw c.deref-in_default.ensures.value at c.drop_frames.ensures.left) (rw c.deref-in_default.ensures.value at c.drop_frames.ensures.kept))
    c.requires.only)

pub returns-clause-replaced : goal.returns-clause-replaced
returns-clause-replaced c = c.in-Ok.ensures.replaced c.args.selected.now
    (rw c.deref-7.ensures.value (rw c.items-subjects.ensures.value at c.in_ok-gone.ensures.pairs)) c.requires.new

pub returns-clause-framed : goal.returns-clause-framed
returns-clause-framed c =
    let old = all_entries c.args.runs.now in
    let fresh = c.args.fresh.items in
    let new = all_entries c.replace_runs-replaced.new.runs in
    let gone = c.in_ok-gone.gone.frames.items in
    let came = c.in_ok-came.came.items in
    let these = rw c.deref.ensures.value at c.in_ok-came.ensures in
    framed_kept c.put_frames.new.index c.drop_frames-2.new.index new (λ q. Contains gone q → HasPlace c.in_ok-staying.staying q)
    (λ q s g. ((rw (c.deref-2.ensures.value, c.deref-3.ensures.value) at c.in_ok-staying.ensures) q g).1
    (subst (λ xs. Contains xs q) (sym these) (these_frames fresh q
    (frames_stay c.args.selected.now old fresh new gone c.order_law-2.ensures.ascending (returns-clause-replaced c)
    (rw c.items-subjects.ensures.value at c.in_ok-gone.ensures.frames) q s g))))
    (rw c.deref-8.ensures.value at c.drop_frames-2.ensures.kept)
    (framed_replaced c.put_frames.new.index c.args.selected.now old fresh new c.order_law-2.ensures.ascending (returns-clause-replaced c)
    (framed_more c.args.frames.now c.put_frames.new.index old c.put_frames.ensures.kept c.requires.framed)
    (framed_these c.put_frames.new.index came fresh these (rw c.deref-6.ensures.value at c.in_ok-put_frames.ensures.there)))

pub returns-clause-only : goal.returns-clause-only
returns-clause-only c =
    let fresh = c.args.fresh.items in
    let these = rw c.deref.ensures.value at c.in_ok-came.ensures in
    frames_replaced c.args.selected.now (all_entries c.args.runs.now) fresh (all_entries c.replace_runs-replaced.new.runs)
    c.in_ok-gone.gone.frames.items c.args.frames.now c.put_frames.new.index c.drop_frames-2.new.index c.order_law.ensures.ascending
    c.requires.ascending c.requires.new (returns-clause-replaced c)
    (rw c.items-subjects.ensures.value at c.in_ok-gone.ensures.frames)
    (λ q k. elim ((rw c.deref-6.ensures.value at c.put_frames.ensures.only) q k) [
      | inl b ↦ inl b
      | inr m ↦ inr (frame_of_these fresh q (subst (λ xs. Contains xs q) these m))
    ])
    (λ q k.
    let l = (rw c.deref-8.ensures.value at c.drop_frames-2.ensures.left) q k in (
      l.0,
      λ g. frame_of_these fresh q (subst (λ xs. Contains xs q) these (((rw (c.deref-2.ensures.value, c.deref-3.ensures.value) at
          c.in_ok-staying.ensures) q g).0 (l.1 g))),
    ))
    c.requires.only
