use Rattle.text_out.proofs.Pushing.{as_text}
use Rattle.wkt_text.proofs.Writing.{line_text}
use Rattle.wkt_text.proofs.write.push_shape.Goals as goal

pub returns-in-Line : goal.returns-in-Line
returns-in-Line c = (
  as_text c.push_line.result _ _ _ _ (line_text c.args.shape.now c.lines.result.now c.in-Line.ensures.value c.lines.ensures.parts)
      c.push_line.ensures,
  c.in-Line.ensures.valid,
)
