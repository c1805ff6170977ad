-- A list of half-planes in which each one's slot leads to the one of the same slot before it.
--
-- slot_of h            the slot of a half-plane, made of its numbers
-- slots_of hs          the slots of the half-planes, in their order
-- IsLastOf s xs m n    n is one more than the last place before m at which s stands in xs, or 0
-- AreChained xs bs ls  bs says of each place of xs where the same slot last stood before it, ls of each slot where it stands last
-- IsIndexed hs bs ls   the same of the slots of half-planes, where there are slots
use Rattle.std.specs.Prelude.{◌≡◌, ◌≢◌, ℕ, ◌+◌, ◌-◌, ◌*◌, ◌%◌, ◌<◌, ◌≤◌, List, length, map, slice_index, unsigned_abs}
use Rattle.plane_terms.specs.HalfPlane.{HalfPlane}
use Rattle.plane_terms.specs.Cell.{Cell}

unfoldable pub slot_of : HalfPlane → ℕ
slot_of h = (unsigned_abs h.a + 31 * unsigned_abs h.b + unsigned_abs h.c) % 1021

abbrev pub slots_of : Cell → List ℕ
slots_of hs = map {A = HalfPlane} slot_of hs

pub record IsLastOf (s : ℕ) (xs : List ℕ) (m n : ℕ) : Type 0 where
  pub fits : n ≤ m
  pub there : 0 < n → slice_index xs (n - 1) ≡ s
  pub none : (j : ℕ) → n ≤ j → j < m → slice_index xs j ≢ s

pub record AreChained (xs bs ls : List ℕ) : Type 0 where
  pub long : length bs ≡ length xs
  pub slots : length ls ≡ 1021
  pub within : (i : ℕ) → i < length xs → slice_index xs i < 1021
  pub before : (i : ℕ) → i < length xs → IsLastOf (slice_index xs i) xs i (slice_index bs i)
  pub last : (s : ℕ) → s < 1021 → IsLastOf s xs (length xs) (slice_index ls s)

abbrev pub IsIndexed : Cell → List ℕ → List ℕ → Type 0
IsIndexed hs bs ls = 0 < length ls → AreChained (slots_of hs) bs ls
