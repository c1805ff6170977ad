use Rattle.std.proofs.Common.{subst, Contains}
use Rattle.error_store.specs.FrameSets.{HasPlace}
use Rattle.error_store.specs.Frames.{IsShared, LosesThose}
use Rattle.error_store.specs.Pairs.{all_entries}
use Rattle.error_store.proofs.Framing.{loses_these}
use Rattle.error_store.proofs.rule_frames.drop_noted.Goals as goal

pub returns-clause-left : goal.returns-clause-left
returns-clause-left c =
    let ps = c.args.index.now in
    let qs = c.drop_frames.new.index in
    let T = IsShared c.args.rule (all_entries c.args.runs.now) in
    subst (λ g. LosesThose (Contains g) T ps qs) c.in_ok-gone.ensures (loses_these (HasPlace c.in_ok-staying.staying) T ps qs
    c.in_ok-gone.gone.items (rw c.deref.ensures.value at c.in_ok-staying.ensures) (rw c.deref-2.ensures.value at c.drop_frames.ensures.left)
    (rw c.deref-2.ensures.value at c.drop_frames.ensures.kept))
