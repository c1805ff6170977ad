use Rattle.std.proofs.Common.{arith}
use Rattle.project_terms.specs.Texts.{IsReading}
use Rattle.project_text.specs.Reading.{IsFaulty, reading_of}
use Rattle.project_text.proofs.Readings.{written, unwritten, faulty, ok_map}
use Rattle.project_text.proofs.shapes.read_shape.Goals as goal

pub returns-then-branch : goal.returns-then-branch
returns-then-branch c =
    written c.args.text.now c.in-Ok.shape _ (omega arith) c.in-Ok.ensures.found c.in_ok-is_written-in-Ok.ensures c.if-branch.true

pub returns-else-branch : goal.returns-else-branch
returns-else-branch c =
    unwritten c.args.text.now c.in-Ok.shape _ c.in-Ok.ensures.found c.in_ok-is_written-in-Ok.ensures c.if-branch.false

pub returns-in-Err : goal.returns-in-Err
returns-in-Err c =
    ok_map c.refused.result (λ r. IsFaulty c.in-Err.fault (reading_of r)) (λ r. IsReading c.args.text.now (reading_of r))
    (λ r h. faulty c.args.text.now c.in-Err.fault (reading_of r) (omega arith) c.in-Err.ensures.found h) c.refused.ensures
