use Rattle.std.proofs.Common.{◌≡◌, ◌∙◌, inl, inr, refl, sym}
use Rattle.topology_terms.specs.Entry.{Entry}
use Rattle.error_store.specs.Frames.{framed_of, IsFrame}
use Rattle.error_store.proofs.Framing.{framed_next, only_those, some_at}
use Rattle.error_store.proofs.frames.add_frames.Goals as goal

pub loop-e-init : goal.loop-e-init
loop-e-init c = record { there = tt; kept = λ q k. k; only = λ q k. inl k }

pub loop-e-preserved : goal.loop-e-preserved
loop-e-preserved c =
    let gains = c.in_ok-put.ensures.ok in
    let e = c.e-item.result in
    record {
      there = framed_next c.loop-e.index c.put.new.self c.args.entries.now c.loop-e.e-index e c.loop-e-test.true c.e-item.is
          (λ q m. (gains q).1 (inl m)) c.loop-e.invariant.there ((gains (framed_of e)).1 (inr (sym c.place_of.ensures)));
      kept = λ q m. (gains q).1 (inl (c.loop-e.invariant.kept q m));
      only = only_those c.args.index.now c.loop-e.index c.put.new.self (IsFrame c.args.entries.now) (framed_of e)
          (some_at (λ (x : Entry). framed_of x ≡ framed_of e) c.args.entries.now c.loop-e.e-index e c.loop-e-test.true c.e-item.is refl)
          c.loop-e.invariant.only (λ q m. elim ((gains q).0 m) [ inl k ↦ inl k | inr k ↦ inr (sym (k ∙ c.place_of.ensures)) ]);
    }
