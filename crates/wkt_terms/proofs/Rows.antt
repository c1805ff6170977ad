-- Numerals, computed from the definitions.
use Rattle.std.proofs.Common.{◌≡◌, pos, negsuc, true, false, refl}
use Rattle.std.specs.Prelude.{codes}
use Rattle.wkt_terms.specs.Runs.{spells}
use Rattle.wkt_terms.specs.Numerals.{Whole, OffGrid, OutOfReach, NoNumber, number_of}

plain : number_of (codes "12") ≡ Whole (pos 12)
plain = refl

zeros : number_of (codes "-007.00") ≡ Whole (negsuc 6)
zeros = refl

no_negative_zero : number_of (codes "-0") ≡ Whole (pos 0)
no_negative_zero = refl

-- a point with digits on one side of it
point_last : number_of (codes "+2.") ≡ Whole (pos 2)
point_last = refl

point_first : number_of (codes ".0") ≡ Whole (pos 0)
point_first = refl

point_alone : number_of (codes "-.") ≡ NoNumber
point_alone = refl

half : number_of (codes "1.50") ≡ OffGrid
half = refl

-- the fraction is looked at before the reach, and the form before both
far_half : number_of (codes "9999999.5") ≡ OffGrid
far_half = refl

two_points : number_of (codes "9999999.5.0") ≡ NoNumber
two_points = refl

greatest : number_of (codes "4194304") ≡ Whole (pos 4194304)
greatest = refl

least : number_of (codes "-4194304") ≡ Whole (negsuc 4194303)
least = refl

beyond : number_of (codes "-4194305") ≡ OutOfReach
beyond = refl

inner_sign : number_of (codes "1-2") ≡ NoNumber
inner_sign = refl

any_case : spells (codes "PoInT") (codes "point") ≡ true
any_case = refl

longer : spells (codes "points") (codes "point") ≡ false
longer = refl
