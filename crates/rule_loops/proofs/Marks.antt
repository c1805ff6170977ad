-- Marks of the cells of an outside that are found to be covered.
use Rattle.std.proofs.Common.{◌≡◌, inl, inr, ℕ, ◌<◌, ◌≤◌, ◌+◌, Bool, true, false, List, Some, arith, get_or, replicate, sym, ◌∙◌, subst}
use Rattle.std.specs.Bool.{OnTrue}
use Rattle.std.specs.Prelude.{slice_get}
use Rattle.std.proofs.lemmas.Bool.{cases_lt, false≢true}
use Rattle.std.proofs.lemmas.List.{get_or-replicate, get_or_past, length-replicate}
use Rattle.plane_terms.specs.Point.{Point}
use Rattle.plane_terms.specs.Cell.{Cell, InCell}
use Rattle.rule_loops.specs.Open.{AreShutAt}
use Rattle.rule_loops.proofs.OpenPieces.{AreShutBut, is_passed, shut_one, shut_more}
use Rattle.rule_loops.proofs.Shut.{IsShutIn}

-- no mark
none_set : (n k : ℕ) → get_or (replicate n false) k false ≡ false
none_set n k = elim (cases_lt k n) [
  | inl l ↦ get_or-replicate n k false false l
  | inr l ↦ get_or_past (replicate n false) k false (omega (arith, length-replicate n false))
]

pub unmarked : (near : List (List Cell)) (c : Cell) (ds : List Cell) (bs : List Bool) (n : ℕ) → bs ≡ replicate n false → AreShutAt bs near c ds
unmarked near c ds bs n e k m = absurd (false≢true (sym (none_set n k) ∙ subst (λ (ms : List Bool). get_or ms k false ≡ true) e m))

-- the search goes on, and nothing open was found where b is set
pub all_more : (b : Bool) (near : List (List Cell)) (c o : Cell) (ds : List Cell) (m i : ℕ) → o ≡ c → OnTrue b (AreShutBut true near c ds m)
    → ((k : ℕ) → (d : Cell) → slice_get ds k ≡ Some d → m ≤ k → k < i → (p : Point) → InCell o p → ¬ (InCell d p))
    → ((d : Cell) → slice_get ds i ≡ Some d → is_passed true d ≡ false → IsShutIn near c d) → OnTrue b (AreShutBut true near c ds (i + 1))
all_more true near c o ds m i s h clear f = shut_one true near c ds i (shut_more true near c o ds m i s h clear) f
all_more false near c o ds m i s h clear f = tt
