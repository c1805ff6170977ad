use Rattle.command_answers.proofs.Barring.{never_barred}
use Rattle.command_answers.proofs.world.World.is_barred.Goals as goal

pub returns-in_default : goal.returns-in_default
returns-in_default c = never_barred c.args.self.now c.args.command.now c.requires c.in_default.not-Class c.in_default.not-Rule
    c.in_default.not-DropRule
