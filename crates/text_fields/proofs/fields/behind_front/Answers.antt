use Rattle.std.proofs.Common.{◌≡◌, [], sym, ◌∙◌, arith}
use Rattle.std.proofs.lemmas.List.{nil_from_length}
use Rattle.text_terms.specs.Fields.{front_field}
use Rattle.text_fields.proofs.Fronts.{behind_end}
use Rattle.text_fields.proofs.fields.behind_front.Goals as goal

pub returns-then-is_end : goal.returns-then-is_end
returns-then-is_end c =
    let none : front_field c.loop-letters.rest.now ≡ [] = c.is_end.ensures.0 c.if-is_end.true in
    let all : c.loop-letters.letters.now ≡ [] = nil_from_length _ (omega arith) in
    (c.loop-letters.invariant.front.0 (none ∙ sym all), sym (behind_end c.loop-letters.rest.now none) ∙ c.loop-letters.invariant.behind)
