use Rattle.command_answers.proofs.Barring.{one_left}
use Rattle.command_answers.proofs.world.World.answer.Goals as goal

pub answer_one-requires : goal.answer_one-requires
answer_one-requires c = one_left c.args.command c.in_default.not-Version c.in_default.not-In c.in_default.not-Reconcile
    c.in_default.not-Post
