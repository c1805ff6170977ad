use Rattle.std.proofs.Common.{◌≡◌, drop}
use Rattle.rule_words.specs.Table.{first_of_word}
use Rattle.rule_words.proofs.rule_kind.first_of_word.Given as goal

abbrev pub invariant-loop-rule : goal.invariant-loop-rule
invariant-loop-rule l = first_of_word l.word (drop l.rule-index l.rules) ≡ first_of_word l.word l.rules
