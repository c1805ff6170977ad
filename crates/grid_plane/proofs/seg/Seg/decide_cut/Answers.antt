use Rattle.std.proofs.Common.{sym, ◌∙◌, ap, not}
use Rattle.grid_plane.proofs.Cuts.{beside, beside_other, at_end, unless_at_end}
use Rattle.grid_plane.proofs.seg.Seg.decide_cut.Goals as goal

pub returns-then-is_beside : goal.returns-then-is_beside
returns-then-is_beside c = sym (beside c.args.self.now c.args.other.now (sym c.is_beside.ensures ∙ c.if-is_beside.true))

pub returns-then-has_end_on : goal.returns-then-has_end_on
returns-then-has_end_on c =
    sym (at_end c.args.self.now c.args.other.now (sym c.is_parallel.ensures ∙ c.if-is_parallel.false) (sym c.has_end_on.ensures
    ∙ c.if-has_end_on.true))

pub returns-then-is_beside-2 : goal.returns-then-is_beside-2
returns-then-is_beside-2 c =
    sym (beside_other c.args.self.now c.args.other.now (sym c.is_beside-2.ensures ∙ c.if-is_beside-2.true))

pub returns : goal.returns
returns c =
    let e = unless_at_end c.args.self.now c.args.other.now (sym c.is_beside.ensures ∙ c.if-is_beside.false) (sym c.is_beside-2.ensures
    ∙ c.if-is_beside-2.false) (sym c.is_parallel.ensures ∙ c.if-is_parallel.false) (sym c.has_end_on.ensures ∙ c.if-has_end_on.false) in
    ap not c.has_end_on-2.ensures ∙ sym e
