use Rattle.std.proofs.Common.{◌≡◌, ◌-◌, ◌∙◌, false, true, ap, drop, length, subst, sym, take}
use Rattle.std.specs.List.{list_any}
use Rattle.std.proofs.lemmas.List.{take_rest}
use Rattle.plane_terms.specs.Cell.{Cell, same_half}
use Rattle.convex_cell.proofs.Flats.{one_there, one_new}
use Rattle.convex_cell.proofs.cell.push_if_new.Goals as goal

pub returns-then-is_among-clause-met : goal.returns-then-is_among-clause-met
returns-then-is_among-clause-met c =
    let d : Cell = c.deref.result.now in
    let from = c.args.from in
    let tail : take (length d - from) (drop from d) ≡ drop from c.args.halves.now.items = take_rest d from ∙ ap (drop from) c.deref.ensures.value in
    let h = c.args.half.now in
    one_there (drop from c.args.halves.now.items) h (subst (λ (xs : Cell). list_any (same_half h) xs ≡ true) tail
    (sym c.is_among.ensures ∙ c.if-is_among.true))

pub returns-clause-met : goal.returns-clause-met
returns-clause-met c =
    let d : Cell = c.deref.result.now in
    let from = c.args.from in
    let tail : take (length d - from) (drop from d) ≡ drop from c.args.halves.now.items = take_rest d from ∙ ap (drop from) c.deref.ensures.value in
    let h = c.args.half.now in
    one_new c.args.halves.now.items c.push.new.self.items from h c.requires (subst (λ (xs : Cell). list_any (same_half h) xs ≡ false) tail
    (sym c.is_among.ensures ∙ c.if-is_among.false)) c.in_ok-push.ensures.items
