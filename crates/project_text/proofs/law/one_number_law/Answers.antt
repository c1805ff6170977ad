use Rattle.std.proofs.Common.{arith}
use Rattle.project_text.proofs.Numerals.{signed_read, number_written}
use Rattle.project_text.proofs.law.one_number_law.Goals as goal

pub returns : goal.returns
returns c = record { again = λ z l. signed_read z (omega arith); only = λ f z e l. number_written f z e (omega arith) }
