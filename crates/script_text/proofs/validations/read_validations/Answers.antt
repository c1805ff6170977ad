use Rattle.std.proofs.lemmas.Bool.{false≢true}
use Rattle.script_text.proofs.Spelled.{no_validation, validation_read}
use Rattle.script_text.proofs.validations.read_validations.Goals as goal

pub returns-in_err-x0 : goal.returns-in_err-x0
returns-in_err-x0 c =
    rw c.from_residual-in_err-x0.ensures
    (no_validation c.args.line.now c.in_ok-rest.rest.now c.in_ok-rest.ensures.1 (λ h. false≢true (c.if-is_only.ensures.1 h))
    (λ r h. c.in_err-x0.ensures r h))

pub returns : goal.returns
returns c =
    let n = c.in_ok-x0.ensures in
    validation_read c.args.line.now c.in_ok-rest.rest.now n.0 c.validate_of.result c.in_ok-rest.ensures.0 c.in_ok-rest.ensures.1 n.1
    (c.validate_of.ensures n.0 n.2)
