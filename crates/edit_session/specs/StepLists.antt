-- The steps of a session.
--
-- StepList         the steps, the first one first, and for how many more there is room
-- kept_in m        what the step at an index keeps, where the map m has the features that steps keep
-- steps_of at hs   the steps of these handles: the one at the index i keeps what `at` has there
-- IsSwappedAt i    at the index i, what the step kept was exchanged with what stood at its handle on the ground
use Rattle.std.specs.Prelude.{◌≡◌, ℕ, suc, List, [], ◌∷◌, ◌++◌, length, Option, nat_eq}
use Rattle.std.specs.HashMap.{HashMap, get}
use Rattle.topology_terms.specs.Feature.{Feature}
use Rattle.session_terms.specs.Kept.{KeptStep}

pub record StepList : Type 0 where
  pub items : List KeptStep
  pub room : ℕ

abbrev pub kept_in : {S : Type 0} → HashMap ℕ Feature S → ℕ → Option Feature
kept_in m i = get nat_eq m i

abbrev pub steps_of : (ℕ → Option Feature) → List ℕ → List KeptStep
steps_of at [] = []
steps_of at (h ∷ hs) = record { handle = h; kept = at 0 } ∷ steps_of (λ i. at (suc i)) hs

pub record IsSwappedAt {G : Type 0} (swapped : ℕ → Option Feature → Option Feature → G → G
    → Type 0) (i : ℕ) (ts us : List KeptStep) (g h : G) : Type 0 where
  pub before : List KeptStep
  pub step : KeptStep
  pub after : List KeptStep
  pub stood : Option Feature
  pub index : length before ≡ i
  pub old : ts ≡ before ++ step ∷ after
  pub new : us ≡ before ++ record { handle = step.handle; kept = stood } ∷ after
  pub swap : swapped step.handle stood step.kept g h
