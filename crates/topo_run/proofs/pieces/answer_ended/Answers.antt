use Rattle.std.proofs.Common.{◌≡◌, length, rules, sym, ◌∙◌, vec_len}
use Rattle.std.proofs.lemmas.Bool.{eqb-true}
use Rattle.std.proofs.lemmas.List.{nil_from_length}
use Rattle.topo_run.proofs.Feeding.{ended_whole, ended_cut}
use Rattle.topo_run.proofs.pieces.answer_ended.Goals as goal

pub returns-then-is_empty-clause-ok : goal.returns-then-is_empty-clause-ok
returns-then-is_empty-clause-ok c =
    let count : length c.args.rest.now.items ≡ vec_len c.args.rest.now = search rules in
    ended_whole c.answer_line.result c.args.rest.now.items c.args.end.now c.without_cr.result.now c.args.world.now c.answer_line.new.world
    c.args.out.now.items c.answer_line.new.out.items c.answer_line.ensures c.without_cr.ensures
    (nil_from_length c.args.rest.now.items (count ∙ eqb-true (vec_len c.args.rest.now) 0 (sym c.is_empty.ensures ∙ c.if-is_empty.true)))

pub returns-clause-ok : goal.returns-clause-ok
returns-clause-ok c =
    ended_cut c.answer_line-2.result c.args.rest.now.items c.args.end.now c.deref.result.now c.without_cr-2.result.now c.args.world.now
    c.answer_line-2.new.world c.args.out.now.items c.answer_line-2.new.out.items c.answer_line-2.ensures c.without_cr-2.ensures
    (c.deref.ensures.value ∙ c.in_ok-hold_more.ensures.ok)
