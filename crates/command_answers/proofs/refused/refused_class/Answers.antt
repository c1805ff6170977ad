use Rattle.command_answers.proofs.refused.refused_class.Goals as goal

pub returns : goal.returns
returns c = rw c.cause.ensures at c.refused.ensures
