-- The words of the command line that name a project.
--
-- IsReplayOf words project            they are `replay PROJECT`
-- IsReplayTo words project target     they are `replay PROJECT TARGET`
-- IsCheckOf words project             they are `check PROJECT`
-- IsReportOf words project            they are `report PROJECT`
--
-- PROJECT and TARGET are any words that are not empty. Source: own.
use Rattle.std.specs.Prelude.{ℕ, ◌≡◌, ◌≢◌, List, [], ◌∷◌, codes}

pub record IsReplayOf (words : List (List ℕ)) (project : List ℕ) : Type 0 where
  pub spelled : words ≡ codes "replay" ∷ project ∷ []
  pub named : project ≢ []

pub record IsReplayTo (words : List (List ℕ)) (project target : List ℕ) : Type 0 where
  pub spelled : words ≡ codes "replay" ∷ project ∷ target ∷ []
  pub named : project ≢ []
  pub aimed : target ≢ []

pub record IsCheckOf (words : List (List ℕ)) (project : List ℕ) : Type 0 where
  pub spelled : words ≡ codes "check" ∷ project ∷ []
  pub named : project ≢ []

pub record IsReportOf (words : List (List ℕ)) (project : List ℕ) : Type 0 where
  pub spelled : words ≡ codes "report" ∷ project ∷ []
  pub named : project ≢ []
