use Rattle.std.proofs.lemmas.Result.{IfOk-weaker}
use Rattle.error_store.specs.Pairs.{all_entries}
use Rattle.error_store.proofs.Framing.{frame_of_these, these_frames}
use Rattle.error_store.proofs.Dropping.{is_other}
use Rattle.std.specs.List.{filter}
use Rattle.error_store.proofs.rule_frames.shared_among.Goals as goal

pub returns : goal.returns
returns c =
    let es = filter (is_other c.args.rule) (all_entries c.args.runs.now) in
    IfOk-weaker c.of-2.result _ _ (λ set h q g. (
      λ s. frame_of_these es q (rw (c.deref.ensures.value, c.in_ok-frames_beside.ensures) at ((h q).0 s)),
      λ s. (h q).1 (rw (c.deref.ensures.value, c.in_ok-frames_beside.ensures) (these_frames es q s)),
    )) c.of-2.ensures
