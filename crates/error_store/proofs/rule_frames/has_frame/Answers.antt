use Rattle.std.proofs.Common.{◌≡◌, ◌∙◌, inl, inr, refl, sym}
use Rattle.topology_terms.specs.Entry.{Entry}
use Rattle.error_store.specs.Frames.{framed_of}
use Rattle.error_store.proofs.Framing.{frame_more, some_at}
use Rattle.error_store.proofs.rule_frames.has_frame.Goals as goal

pub returns-then-is_same : goal.returns-then-is_same
returns-then-is_same c = (
  λ t. some_at (λ (x : Entry). framed_of x ≡ c.args.frame.now) c.args.entries.now c.loop-e.e-index c.e-item.result c.loop-e-test.true c.e-item.is
      (sym c.place_of.ensures ∙ c.is_same.ensures.0 c.if-is_same.true),
  λ s. refl,
)

pub loop-e-preserved : goal.loop-e-preserved
loop-e-preserved c = λ s. elim ((frame_more c.args.entries.now c.loop-e.e-index c.e-item.result c.loop-e-test.true c.e-item.is c.args.frame.now).1 s) [
  | inl k ↦ c.loop-e.invariant k
  | inr k ↦ let t = c.is_same.ensures.1 (c.place_of.ensures ∙ k) in let f = c.if-is_same.false in cc
]
