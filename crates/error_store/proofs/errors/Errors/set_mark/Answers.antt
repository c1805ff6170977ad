use Rattle.std.proofs.Common.{◌∙◌, sym}
use Rattle.error_store.specs.Pairs.{all_entries}
use Rattle.error_store.proofs.Framing.{framed_like, frames_like}
use Rattle.error_store.proofs.errors.Errors.set_mark.Goals as goal

pub invariant_of-self : goal.invariant_of-self
invariant_of-self c =
    let put = c.mark_run.ensures in (
      put.runs,
      c.self.invariant.1 ∙ sym put.len,
      framed_like c.self.inside.frames (all_entries c.self.inside.runs) (all_entries c.mark_run.new.runs) put.ascending put.same
          c.self.invariant.2,
      frames_like c.self.inside.frames (all_entries c.self.inside.runs) (all_entries c.mark_run.new.runs) c.order_law.ensures.ascending put.same
          c.self.invariant.3,
    )
