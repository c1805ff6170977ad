use Rattle.std.proofs.Common.{◌≡◌, ◌∙◌, ap, subst, sym, ◌<◌, ◌-◌, [], ◌∷◌, ◌++◌, length, get_or, arith, rules, append-nil, Option}
use Rattle.std.specs.Prelude.{vec_len}
use Rattle.std.proofs.lemmas.List.{length-append}
use Rattle.std.specs.Option.{option_to_list}
use Rattle.dirty_area.specs.Blocks.{Block, runs, joined}
use Rattle.dirty_area.proofs.Joins.{joined_pushed}
use Rattle.dirty_area.proofs.Rooms.{empty_gone, last_gone}
use Rattle.dirty_area.proofs.list.drop_empty.Goals as goal

pub loop-blocks-preserved-in-loop-blocks : goal.loop-blocks-preserved-in-loop-blocks
loop-blocks-preserved-in-loop-blocks c =
    let bs = c.loop-blocks.blocks.items in
    let cs = c.pop.new.self.items in
    let some : 0 < length bs = subst (λ ds. 0 < length ds) c.deref.ensures.value (c.ends_empty.ensures.some c.loop-blocks-test.true) in
    let len : vec_len c.loop-blocks.blocks ≡ length bs = search rules in
    let long : 0 < vec_len c.loop-blocks.blocks = omega (arith, len, some) in
    let b : Block = get_or bs (vec_len c.loop-blocks.blocks - 1) (record { items = []; room = 0 }) in
    let split : bs ≡ cs ++ b ∷ [] = c.pop.ensures.items ∙ ap (λ (o : Option Block). cs ++ option_to_list o)
    (c.pop.ensures.value (record { items = []; room = 0 }) long) in
    let none : get_or (runs bs) (length bs - 1) [] ≡ [] = subst (λ ds. get_or (runs ds) (length ds - 1) [] ≡ []) c.deref.ensures.value
    (c.ends_empty.ensures.empty c.loop-blocks-test.true) in
    let gone : runs bs ≡ runs cs ++ [] ∷ [] = last_gone bs cs b split none in
    let h = c.loop-blocks.invariant in (
      sym (ap joined gone ∙ (joined_pushed (runs cs) [] ∙ append-nil (joined (runs cs)))) ∙ h.0,
      omega (arith, h.1, ap length split, length-append cs (b ∷ [])),
      λ ps i. empty_gone (runs bs) (runs cs) ps gone (h.2 ps i),
    )
