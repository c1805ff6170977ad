use Rattle.std.proofs.Common.{inl, arith, refl, subst, Contains}
use Rattle.std.proofs.lemmas.List.{take_all}
use Rattle.error_store.proofs.Framing.{Holds, contained_at, only_those, there_next}
use Rattle.error_store.proofs.frames.put_missing.Goals as goal

pub loop-frame-init : goal.loop-frame-init
loop-frame-init c = record { kept = λ q k. k; there = λ q k. absurd (omega (arith, k.1)); only = λ q k. inl k }

pub put_frame-requires : goal.put_frame-requires
put_frame-requires c = λ s. c.loop-frame.invariant.kept c.frame-item.result (c.requires c.frame-item.result (contained_at c.args.frames.now
    c.loop-frame.frame-index c.frame-item.result c.loop-frame-test.true c.frame-item.is c.frame-item.result refl) s)

pub returns-in_err-put_frame-clause-kept : goal.returns-in_err-put_frame-clause-kept
returns-in_err-put_frame-clause-kept c = λ q k. c.put_frame.ensures.kept q (c.loop-frame.invariant.kept q k)

pub returns-in_err-put_frame-clause-only : goal.returns-in_err-put_frame-clause-only
returns-in_err-put_frame-clause-only c = only_those c.args.index.now c.loop-frame.index c.put_frame.new.index (Contains c.args.frames.now)
    c.frame-item.result (contained_at c.args.frames.now c.loop-frame.frame-index c.frame-item.result c.loop-frame-test.true c.frame-item.is
    c.frame-item.result refl) c.loop-frame.invariant.only c.put_frame.ensures.only

pub loop-frame-preserved : goal.loop-frame-preserved
loop-frame-preserved c = record {
  kept = λ q k. c.put_frame.ensures.kept q (c.loop-frame.invariant.kept q k);
  there = there_next c.loop-frame.index c.put_frame.new.index c.args.frames.now c.loop-frame.frame-index c.frame-item.result
      c.loop-frame-test.true c.frame-item.is c.put_frame.ensures.kept c.loop-frame.invariant.there c.in_ok-put_frame.ensures.there;
  only = only_those c.args.index.now c.loop-frame.index c.put_frame.new.index (Contains c.args.frames.now) c.frame-item.result
      (contained_at c.args.frames.now c.loop-frame.frame-index c.frame-item.result c.loop-frame-test.true c.frame-item.is c.frame-item.result refl)
      c.loop-frame.invariant.only c.put_frame.ensures.only;
}

pub returns-clause-there : goal.returns-clause-there
returns-clause-there c = subst (λ xs. Holds xs c.loop-frame.index) (take_all c.loop-frame.frame-index c.args.frames.now c.loop-frame-test.false)
    c.loop-frame.invariant.there
