use Rattle.script_text.proofs.FixLines.{move_found}
use Rattle.script_text.proofs.fixes.read_move.Goals as goal

pub returns : goal.returns
returns c =
    move_found c.args.text.now c.in_ok-rest.rest.now c.read_numbers.result c.in_ok-rest.ensures.0 c.in_ok-rest.ensures.1 c.read_numbers.ensures
