use Rattle.std.proofs.Common.{ap, sym, ◌∙◌, length, length-drop, length-append, arith, ◌+◌, ◌≡◌, ◌*◌, ◌≤◌, ◌∷◌, [], subst}
use Rattle.std.specs.Prelude.{slice_get}
use Rattle.shape.specs.Frames.{IsRound}
use Rattle.shape.proofs.Framed.{rest_more, frame_more, counted}
use Rattle.shape.proofs.frames.frames_of.Goals as goal

pub loop-rest-smaller : goal.loop-rest-smaller
loop-rest-smaller c =
    let rest = c.loop-rest.rest.now in
    omega (arith, length-drop 32 rest, ap length c.split_block.ensures.later, c.loop-rest-test.true)

pub loop-rest-preserved : goal.loop-rest-preserved
loop-rest-preserved c =
    let rs = c.loop-rest.frames.items in
    let r = c.frame_of.result in
    let rest = c.loop-rest.rest.now in
    let ts = c.args.segments.now in
    let h = c.loop-rest.invariant.rest in
    let more : length c.push.new.self.items ≡ length rs + 1 =
    omega (arith, ap length c.in_ok-push.ensures.items, length-append rs (r ∷ [])) in
    record {
      rest = c.split_block.ensures.later ∙ rest_more (length rs) (length c.push.new.self.items) rest ts more h;
      few = omega (arith, more, ap length h, length-drop (32 * length rs) ts, c.loop-rest-test.true);
      round = λ k f e. frame_more rs r rest ts h (subst (IsRound r) c.split_block.ensures.block c.frame_of.ensures) c.loop-rest.invariant.round k f
          (sym (ap (λ fs. slice_get fs k) c.in_ok-push.ensures.items) ∙ e);
    }

pub returns : goal.returns
returns c = record {
  count = counted c.loop-rest.frames.items c.args.segments.now (omega arith) c.loop-rest.invariant.few
      (subst (λ us. length us ≤ 0) c.loop-rest.invariant.rest c.loop-rest-test.false);
  round = c.loop-rest.invariant.round;
}
