use Rattle.std.proofs.Common.{◌≡◌, ◌+◌, ◌-◌, ◌<◌, [], ◌∷◌, reverse, drop, length, sym, ◌∙◌, ap, subst, arith}
use Rattle.std.proofs.lemmas.List.{reverse-append}
use Rattle.shape.specs.Frames.{IsRound}
use Rattle.shape.proofs.Dropped.{item_dropped}
use Rattle.rule_loops.specs.Ahead.{AreAhead}
use Rattle.rule_loops.proofs.Clear.{round_joined, ahead_more}
use Rattle.rule_loops.proofs.ahead.rounds_ahead.Goals as goal

pub loop-i-preserved : goal.loop-i-preserved
loop-i-preserved c =
    let ts = c.args.segments.now in
    let j = c.loop-i.i in
    let i = j - 1 in
    let t = c.index-segments-i.result in
    let r = c.join-round.result in
    let rs = reverse c.loop-i.ahead.items in
    let next : i + 1 ≡ j = omega (arith, c.loop-i-test.true) in
    let within : i < length ts = omega (arith, c.loop-i-test.true, c.loop-i.auto.i) in
    let more : drop i ts ≡ t ∷ drop j ts = item_dropped ts i t within c.index-segments-i.is ∙ ap (λ n. t ∷ drop n ts) next in
    let round = round_joined c.loop-i.round r t (drop j ts) c.env.ensures.valid.proper (rw (c.env.ensures.value) at c.join-round.ensures.meaning)
    c.loop-i.invariant.round in
    let kept : reverse c.push.new.self.items ≡ r ∷ rs = ap reverse c.in_ok-push.ensures.items ∙ reverse-append c.loop-i.ahead.items (r ∷ []) in
    record {
      round = subst (IsRound r) (sym more) round;
      ahead = subst (λ qs. AreAhead qs (drop i ts)) (sym kept)
          (subst (AreAhead (r ∷ rs)) (sym more) (ahead_more r rs t (drop j ts) round c.loop-i.invariant.ahead));
    }
