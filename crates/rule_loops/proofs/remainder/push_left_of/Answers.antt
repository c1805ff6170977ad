use Rattle.std.proofs.Common.{◌∙◌, ◌++◌, ap, sym, append-nil}
use Rattle.std.proofs.lemmas.Bool.{OnTrue_at}
use Rattle.rule_loops.proofs.Depth.{cell_none}
use Rattle.rule_loops.proofs.OpenPieces.{started_lasts}
use Rattle.rule_loops.proofs.remainder.push_left_of.Goals as goal

pub returns-then-branch : goal.returns-then-branch
returns-then-branch c = sym (ap (λ us. c.args.left.now ++ us) (cell_none c.args.cell.now c.args.near.now c.requires.some
    (λ p m. OnTrue_at c.if-branch.true c.in_ok-is_covered.ensures.covered p ((c.in_ok-start.ensures.ok p).1 m)))
    ∙ append-nil c.args.left.now)

pub is_covered-requires-clause-is_open : goal.is_covered-requires-clause-is_open
is_covered-requires-clause-is_open c =
    started_lasts c.is_strict-is_open.result c.args.cell.now c.start.new.self c.is_strict-is_open.ensures c.in_ok-start.ensures.ok

pub push_left-requires-clause-is_open : goal.push_left-requires-clause-is_open
push_left-requires-clause-is_open c = rw (c.in_ok-is_covered.ensures.same)
    (started_lasts c.is_strict-is_open.result c.args.cell.now c.start.new.self c.is_strict-is_open.ensures c.in_ok-start.ensures.ok)

pub push_left-requires-clause-piece : goal.push_left-requires-clause-piece
push_left-requires-clause-piece c = λ p. rw (c.in_ok-is_covered.ensures.same, c.in_ok-own.ensures) (c.in_ok-start.ensures.ok p)
