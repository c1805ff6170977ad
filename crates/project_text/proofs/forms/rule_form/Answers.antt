use Rattle.project_text.proofs.FieldForms.{rule_unworded_at}
use Rattle.project_text.proofs.forms.rule_form.Goals as goal

pub returns-in_err-of_word : goal.returns-in_err-of_word
returns-in_err-of_word c =
    rw c.from_residual-in_err-of_word.ensures (rule_unworded_at c.args.typed _ _ _ _ _ _ _ _ c.in_ok-number.ensures.0 c.in_ok-word.ensures.0
    c.in_ok-origin.ensures.0 c.in_ok-read_number.ensures c.in_err-of_word.ensures.only)
