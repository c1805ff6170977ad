-- The errors of one full validation from scratch.
--
-- unmarked e           the error without its mark
-- IsFromScratch M p es     es are, in order of keys and without marks, the errors of each live feature of p under each rule in force, as
--                          the
--                      rules cut them, and no others; there is one such list at most
--
-- It names no dirt and no errors that were there before. Source: own.
use Rattle.std.specs.Prelude.{◌≡◌, ℕ, false, List}
use Rattle.plane_terms.specs.Lists.{Every}
use Rattle.topology_terms.specs.Meaning.{Meaning}
use Rattle.topology_terms.specs.Entry.{Entry, IsAscending}
use Rattle.topology_terms.specs.Project.{Project}
use Rattle.topology_terms.specs.Settled.{IsCutAnew}

abbrev pub unmarked : Entry → Entry
unmarked e = record e { marked = false }

pub record IsFromScratch (M : Meaning) (p : Project) (es : List Entry) : Type 0 where
  pub ascending : IsAscending es
  pub bare : Every (λ (e : Entry). e.marked ≡ false) es
  pub anew : (a : ℕ) → IsCutAnew M p (record p { entries = es }) a
