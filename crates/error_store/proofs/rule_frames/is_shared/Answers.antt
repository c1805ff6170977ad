use Rattle.std.proofs.Common.{◌++◌, [], ◌∷◌, arith, refl}
use Rattle.std.proofs.lemmas.Bool.{false≢true}
use Rattle.error_store.proofs.Collected.{gathered_more}
use Rattle.error_store.proofs.Pairs.{run_at}
use Rattle.error_store.proofs.Sharing.{shared_there, unshared_more, unshared_all}
use Rattle.error_store.proofs.Walking.{less_left}
use Rattle.error_store.proofs.rule_frames.is_shared.Goals as goal

pub shares-requires : goal.shares-requires
shares-requires c = rw c.deref.ensures.value
    (run_at c.args.runs.now c.in-Some.pair c.in-Some.run'.now c.requires c.in-Some.ensures.next.run).1

pub returns-then-shares : goal.returns-then-shares
returns-then-shares c =
    let next = c.in-Some.ensures.next in (
      λ t. shared_there c.args.runs.now c.in-Some.pair c.in-Some.run'.now c.args.rule c.args.frame.now c.in-Some.ensures.ordered c.requires next.run
          (rw c.deref.ensures.value at (c.shares.ensures.0 c.if-shares.true)),
      λ s. refl,
    )

pub loop-pair-preserved : goal.loop-pair-preserved
loop-pair-preserved c =
    let inv = c.loop-pair.invariant in
    let run = c.in-Some.run'.now in (
      inv.0 ++ run.items,
      gathered_more (c.args.frame.now.handle ∷ []) c.args.runs.now c.loop-pair.from inv.0 c.in-Some.pair run c.in-Some.ensures.ordered c.requires inv.1
          c.in-Some.ensures.next,
      unshared_more c.args.rule inv.0 run.items c.args.frame.now inv.2
          (λ s. let t = c.shares.ensures.1 (rw c.deref.ensures.value s) in let f = c.if-shares.false in cc),
    )

pub loop-pair-smaller : goal.loop-pair-smaller
loop-pair-smaller c =
    let n = c.in-Some.ensures.next in
    less_left c.args.runs.now c.loop-pair.from c.in-Some.pair c.in-Some.pair c.in-Some.run'.now n.on n.run (refl, omega arith)

pub returns : goal.returns
returns c =
    let inv = c.loop-pair.invariant in (
      λ t. absurd (false≢true t),
      λ s. absurd (unshared_all c.args.runs.now c.loop-pair.from inv.0 c.args.rule c.args.frame.now c.in_default.ensures.ordered c.requires inv.1
          c.in_default.ensures.next inv.2 s),
    )
