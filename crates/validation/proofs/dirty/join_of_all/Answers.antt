use Rattle.std.proofs.Common.{sym, subst}
use Rattle.std.proofs.lemmas.List.{take_all}
use Rattle.plane_terms.specs.Rectangle.{Rectangle, IsWithin}
use Rattle.plane_terms.proofs.ListLemmas.{every_at}
use Rattle.validation.proofs.Asking.{round_more}
use Rattle.validation.proofs.Nearby.{joined_more}
use Rattle.validation.proofs.dirty.join_of_all.Goals as goal

pub loop-r-preserved : goal.loop-r-preserved
loop-r-preserved c =
    let rs = c.args.rects.now in
    let r = c.r-item.result in (
      joined_more rs c.loop-r.r-index r c.loop-r.joined c.join-joined.result c.loop-r-test.true c.r-item.is c.join-joined.ensures.meaning
          c.loop-r.invariant.0,
      round_more rs r c.loop-r.joined c.join-joined.result c.join-joined.ensures.meaning c.loop-r.invariant.1
          (λ t all. subst (λ (x : Rectangle). IsWithin x t) (sym c.r-item.is) (every_at (λ (s : Rectangle). IsWithin s t) rs c.loop-r.r-index r all
          c.loop-r-test.true)),
    )

pub returns : goal.returns
returns c = record {
  holds = rw (take_all c.loop-r.r-index c.args.rects.now c.loop-r-test.false) at c.loop-r.invariant.0;
  least = c.loop-r.invariant.1;
}
