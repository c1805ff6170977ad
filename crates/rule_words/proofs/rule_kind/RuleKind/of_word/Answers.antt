use Rattle.rule_words.specs.Table.{all_rules}
use Rattle.rule_words.proofs.OneWord.{has_word}
use Rattle.rule_words.proofs.rule_kind.RuleKind.of_word.Goals as goal

pub returns-clause-found : goal.returns-clause-found
returns-clause-found c = rw c.first_of_word.ensures (has_word c.args.bytes.now all_rules)
