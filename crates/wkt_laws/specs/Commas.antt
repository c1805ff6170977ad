-- Texts behind commas.
--
-- comma_texts f xs     the text of each, behind a comma and a space
use Rattle.std.specs.Prelude.{ℕ, List, [], ◌∷◌, ◌++◌}

abbrev pub comma_texts : {A : Type 0} → (A → List ℕ) → List A → List ℕ
comma_texts f [] = []
comma_texts f (x ∷ xs) = 44 ∷ 32 ∷ f x ++ comma_texts f xs
