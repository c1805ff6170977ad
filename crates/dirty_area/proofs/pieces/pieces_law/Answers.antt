use Rattle.sound_laws.proofs.Dirts.{pieces_cover}
use Rattle.sound_laws.proofs.Pieces.{pieces_within}
use Rattle.dirty_area.proofs.pieces.pieces_law.Goals as goal

pub returns-clause-hold : goal.returns-clause-hold
returns-clause-hold c = λ p h n. pieces_cover c.args.r.now c.args.window.now p h n

pub returns-clause-within : goal.returns-clause-within
returns-clause-within c = λ p h. pieces_within c.args.r.now c.args.window.now p h
