-- The five lines of a town's summary.
--
-- TownCounts          features: live features at the end; judged: pairs of a rule and a subject, over both validations;
--                     errors, dirty: at the end;
--                     text: the sum of all bytes of the listings of cells and of features at the end, each byte a number from 0 to 255
-- count_line word n   a line of a word and a number
-- summary_text c      a line for each, in this order
--
-- Source: own.
use Rattle.std.specs.Prelude.{ℕ, List, [], ◌∷◌, codes, decimal}
use Rattle.text_terms.specs.Wkt.{◌⧺◌}

pub record TownCounts : Type 0 where
  pub features : ℕ
  pub judged : ℕ
  pub errors : ℕ
  pub dirty : ℕ
  pub text : ℕ

abbrev pub count_line : List ℕ → ℕ → List ℕ
count_line word n = word ⧺ 32 ∷ decimal n ⧺ 10 ∷ []

abbrev pub summary_text : TownCounts → List ℕ
summary_text c =
    count_line (codes "features") c.features ⧺ count_line (codes "judged") c.judged ⧺ count_line (codes "errors") c.errors
    ⧺ count_line (codes "dirty") c.dirty ⧺ count_line (codes "text") c.text
