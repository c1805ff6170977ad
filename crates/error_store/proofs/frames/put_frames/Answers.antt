use Rattle.error_store.specs.FrameSets.{HasPlace}
use Rattle.grid_index.specs.Near.{HoldsSame}
use Rattle.error_store.proofs.Framing.{back_same, err_of}
use Rattle.error_store.proofs.frames.put_frames.Goals as goal

pub returns-then-is_err-clause-only : goal.returns-then-is_err-clause-only
returns-then-is_err-clause-only c = λ q k. c.put_missing-put.ensures.only q (c.drop_frames.ensures.left q k).0

pub returns-then-is_err-clause-err : goal.returns-then-is_err-clause-err
returns-then-is_err-clause-err c = err_of c.put_missing-put.result (HoldsSame c.args.index.now c.drop_frames.new.index)
    (back_same c.args.index.now c.put_missing-put.new.index c.drop_frames.new.index c.args.frames.now (HasPlace c.args.standing.now) c.requires
    c.put_missing-put.ensures.kept c.put_missing-put.ensures.only c.drop_frames.ensures.left c.drop_frames.ensures.kept)
