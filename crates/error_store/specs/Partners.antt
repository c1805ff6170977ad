-- The partner of an error, by its handle.
--
-- given h          the handle h, where it is not 0
-- given_back o     of the handle of the partner, or 0, that partner
use Rattle.std.specs.Prelude.{◌≡◌, ℕ, ◌<◌, Option, None, Some}
use Rattle.std.specs.Option.{option_map_or}
use Rattle.std.specs.NonZero.{non_zero_u32_get}
use Rattle.std.specs.declared.num.NonZeroU32.{NonZeroU32}
use Rattle.std.proofs.Common.{refl}
use Rattle.number_laws.specs.Given.{given_by, given_same}

abbrev made : (h : ℕ) → 0 < h → NonZeroU32
made h p = record { value = h; ok = p }

abbrev pub given : ℕ → Option NonZeroU32
given h = given_by made h

pub given_back : (o : Option NonZeroU32) → given (option_map_or non_zero_u32_get o 0) ≡ o
given_back None = refl
given_back (Some h) = given_same made h.value h.ok
