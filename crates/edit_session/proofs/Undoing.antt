-- What is sound and settled stays so while steps are undone.
use Rattle.std.proofs.Common.{List, [], ◌∷◌, sym, subst}
use Rattle.topology_terms.specs.Meaning.{Meaning}
use Rattle.topology_terms.specs.Project.{Project}
use Rattle.topology_terms.specs.Settled.{IsSettledUnder}
use Rattle.topology_terms.specs.Sound.{IsSoundUnder}
use Rattle.session_terms.specs.Kept.{KeptStep, KeptSession}
use Rattle.edit_session.specs.Moves.{AreUndoneOn}
use Rattle.edit_session.specs.OverTopologies.{IsGroundSwap}

pub chain_sound : (M : Meaning) (ts : List KeptStep) (s u : KeptSession) (p q : Project) → AreUndoneOn (IsGroundSwap M) ts s u p q
    → IsSoundUnder M p → IsSoundUnder M q
chain_sound M [] s u p q c k = subst (IsSoundUnder M) (sym c.1) k
chain_sound M (t ∷ ts) s u p q c k = c.3.swap.sound (chain_sound M ts s c.0 p c.1 c.2 k)

pub chain_settled : (M : Meaning) (ts : List KeptStep) (s u : KeptSession) (p q : Project) → AreUndoneOn (IsGroundSwap M) ts s u p q
    → IsSettledUnder M p → IsSettledUnder M q
chain_settled M [] s u p q c k = subst (IsSettledUnder M) (sym c.1) k
chain_settled M (t ∷ ts) s u p q c k = c.3.swap.settled (chain_settled M ts s c.0 p c.1 c.2 k)
