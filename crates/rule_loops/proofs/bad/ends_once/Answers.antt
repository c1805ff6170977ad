use Rattle.std.proofs.Common.{◌≡◌, true, false, sym, ◌∙◌, ap, refl, append-nil}
use Rattle.plane_terms.specs.Shape.{ends_of}
use Rattle.topology_terms.specs.Tests.{has_end_at}
use Rattle.rule_loops.proofs.Once.{once_next}
use Rattle.rule_loops.proofs.bad.ends_once.Goals.{then-not-is_among+in_ok-push, else-not-is_among}
use Rattle.rule_loops.proofs.bad.ends_once.Goals as goal

pub loop-i-preserved : goal.loop-i-preserved
loop-i-preserved c =
    let r = c.end-end.result in
    let qs = ends_of c.args.line.now in
    let i = c.loop-i.i in
    let among : c.is_among.result ≡ has_end_at c.loop-i.ends.items r = rw (c.is_among.ensures, c.deref.ensures.value) refl in
    elim c.if-not-is_among.branch [
      | then-not-is_among+in_ok-push w ↦
          ap (λ v. v.items) w.ends-is ∙ (w.in_ok-push.ensures.items
          ∙ once_next qs i r false c.loop-i.ends.items c.end-end.ensures c.loop-i.invariant (sym among ∙ w.if-not-is_among.true))
      | else-not-is_among w ↦
          ap (λ v. v.items) w.ends-is ∙ (sym (append-nil c.loop-i.ends.items)
          ∙ once_next qs i r true c.loop-i.ends.items c.end-end.ensures c.loop-i.invariant (sym among ∙ w.if-not-is_among.false))
    ]
