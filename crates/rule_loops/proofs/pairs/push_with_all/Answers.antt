use Rattle.std.proofs.Common.{sym, subst, arith}
use Rattle.std.proofs.lemmas.List.{drop_all}
use Rattle.rule_loops.specs.Ahead.{IsOff}
use Rattle.rule_loops.proofs.Blocked.{left_all}
use Rattle.rule_loops.proofs.pairs.push_with_all.Goals as goal

pub push_blocks-requires : goal.push_blocks-requires
push_blocks-requires g c =
    let ts = c.args.blocks.now in
    subst (IsOff c.args.segment.now) (sym (drop_all c.len.result ts (omega arith))) tt

pub returns : goal.returns
returns g c = rw (left_all c.args.blocks.now) at c.push_blocks.ensures
