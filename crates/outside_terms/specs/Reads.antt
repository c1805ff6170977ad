-- What the reading of a script gives.
--
-- script_limit          so many bytes of a script are taken at most
-- Passage               a source or a sink before and after a call: its bytes, where they are told, and its count of faults
-- Read p kept end       a script was read so: these of its bytes count, and the reading ended so
--   AtEnd               all bytes that were left, and none is left; within the limit
--   Failed              all bytes that were given, within the limit, and the count of faults rose
--   TooLong             the first bytes up to the limit, of more that were given
-- is_at_end end         the script was read to its end
-- Taken p given whole   these bytes of a script were taken so far; if they are the whole of it, none is left and they are within the limit
use Rattle.std.specs.Prelude.{ℕ, ◌≡◌, ◌≤◌, ◌<◌, Bool, true, false, List, length, take, Option}
use Rattle.std.specs.Io.KnownBytes.{Consumes, IsAtEnd}
use Rattle.outside_terms.specs.Faults.{Rose}
use Rattle.outside_terms.specs.declared.end.End.{End}
use Rattle.outside_terms.specs.declared.end.End.TheVariants.{AtEnd, Failed, TooLong}

abbrev pub script_limit : ℕ
script_limit = 268435456

pub record Passage : Type 0 where
  pub old : Option (List ℕ)
  pub new : Option (List ℕ)
  pub before : ℕ
  pub now : ℕ

abbrev pub EndsSo : Passage → List ℕ → List ℕ → End → Type 0
EndsSo p given kept AtEnd = (kept ≡ given) × (length given ≤ script_limit) × IsAtEnd p.new
EndsSo p given kept Failed = (kept ≡ given) × (length given ≤ script_limit) × Rose p.before p.now
EndsSo p given kept TooLong = (kept ≡ take script_limit given) × (script_limit < length given)

pub record Read (p : Passage) (kept : List ℕ) (end : End) : Type 0 where
  pub given : List ℕ
  pub consumed : Consumes p.old p.new given
  pub ended : EndsSo p given kept end

abbrev pub is_at_end : End → Bool
is_at_end AtEnd = true
is_at_end Failed = false
is_at_end TooLong = false

pub record Taken (p : Passage) (given : List ℕ) (whole : Bool) : Type 0 where
  pub consumed : Consumes p.old p.new given
  pub ended : whole ≡ true → (length given ≤ script_limit) × IsAtEnd p.new
