-- Names in a buffer of 32 bytes.
--
-- IsNameIn bytes len     the first `len` bytes of the buffer are a name
use Rattle.std.specs.Prelude.{ℕ, ◌≤◌, List, take, IsTrue}
use Rattle.text_terms.specs.Fields.{is_name}

pub record IsNameIn (bytes : List ℕ) (len : ℕ) : Type 0 where
  pub in_buffer : len ≤ 32
  pub named : IsTrue (is_name (take len bytes))
