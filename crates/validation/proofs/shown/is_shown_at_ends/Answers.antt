use Rattle.validation.proofs.Enough.{shows_at}
use Rattle.validation.proofs.shown.is_shown_at_ends.Goals as goal

pub returns-then-end_count-gt0 : goal.returns-then-end_count-gt0
returns-then-end_count-gt0 c = shows_at c.args.parts.now c.args.f.now c.end_count.result c.look_beyond_ends.result
    (rw c.shape.ensures at c.end_count.ensures) c.if-end_count-gt0.true c.look_beyond_ends.ensures
