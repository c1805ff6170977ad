-- How texts are put together.
--
-- xs ⧺ ys             xs and then ys, grouped from the right, as `write!` builds a text
-- listed ts           the texts with `, ` between them
--
-- Source: own.
use Rattle.std.specs.Prelude.{ℕ, List, [], ◌∷◌, ◌++◌, codes}

infixr 45 ◌⧺◌
abbrev pub ◌⧺◌ : List ℕ → List ℕ → List ℕ
xs ⧺ ys = xs ++ ys

abbrev pub listed : List (List ℕ) → List ℕ
listed [] = []
listed (t ∷ []) = t
listed (t ∷ u ∷ ts) = t ⧺ codes ", " ⧺ listed (u ∷ ts)
