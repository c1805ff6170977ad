-- The words of the command line that ask for a town.
--
-- IsTownRequest words seed n     they are `town SEED N`: SEED is digits of the value seed, below 2 ^ 64, and N digits of the value n,
--                                from 1 to 60; zeros in front are free
--
-- Source: own.
use Rattle.std.specs.Prelude.{ℕ, ◌≡◌, List, [], ◌∷◌, codes}
use Rattle.text_terms.specs.Numbers.{IsWithinText}

pub record IsTownRequest (words : List (List ℕ)) (seed n : ℕ) : Type 0 where
  pub seed_word : List ℕ
  pub rows_word : List ℕ
  pub spelled : words ≡ codes "town" ∷ seed_word ∷ rows_word ∷ []
  pub says_seed : IsWithinText 0 18446744073709551615 seed_word seed
  pub says_rows : IsWithinText 1 60 rows_word n
