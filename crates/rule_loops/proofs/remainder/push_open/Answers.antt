use Rattle.std.proofs.Common.{◌∙◌, ◌++◌, true, ap, sym, append-nil}
use Rattle.rule_loops.proofs.Depth.{cell_none}
use Rattle.rule_loops.proofs.OpenPieces.{started_lasts}
use Rattle.rule_loops.proofs.remainder.push_open.Goals as goal

pub covered_parts-requires-clause-is_open : goal.covered_parts-requires-clause-is_open
covered_parts-requires-clause-is_open c = started_lasts true c.args.cell.now c.start.new.self c.requires.strict c.in_ok-start.ensures.ok

pub push_parts-requires-clause-piece : goal.push_parts-requires-clause-piece
push_parts-requires-clause-piece c = λ p. rw (c.in_ok-covered.ensures.same, c.in_ok-own.ensures) (c.in_ok-start.ensures.ok p)

pub returns-in_default : goal.returns-in_default
returns-in_default c = sym (ap (λ us. c.args.left.now ++ us) (cell_none c.args.cell.now c.args.near.now c.requires.some
    (λ p m. (rw c.in_default.is at (c.in_ok-covered.ensures.all)) p ((c.in_ok-start.ensures.ok p).1 m)))
    ∙ append-nil c.args.left.now)
