-- AreWords seed ws     they are the first words of this seed
use Rattle.std.specs.Prelude.{ℕ, ◌≡◌, ◌<◌, List, length, slice_index}
use Rattle.town_terms.specs.Words.{word}

abbrev pub AreWords : ℕ → List ℕ → Type 0
AreWords seed ws = (k : ℕ) → k < length ws → slice_index ws k ≡ word seed k
