-- Numbers that are handed to a call by value.
use Rattle.std.proofs.Common.{ℤ, to_z, of_z, w32, w64, ◌≡◌, ◌∙◌, ap, arith}
use Rattle.std.proofs.lemmas.Int.{ints}
use Rattle.std.specs.Fmt.{signed_decimal}
use Rattle.plane_terms.specs.Point.{InReach}
use Rattle.plane_terms.specs.HalfPlane.{HalfPlane, IsHalfPlane}

pub as_number : (x z : ℤ) → InReach x → x ≡ z → signed_decimal (to_z w32 (of_z w32 x)) ≡ signed_decimal z
as_number x z h e = let k : to_z w32 (of_z w32 x) ≡ x = omega (arith, ints, h.low, h.high) in ap signed_decimal (k ∙ e)

pub x_factor : (h : HalfPlane) (x : ℤ) → IsHalfPlane h → x ≡ h.a → signed_decimal (to_z w64 (of_z w64 x)) ≡ signed_decimal h.a
x_factor h x valid e = let k : to_z w64 (of_z w64 x) ≡ x = omega (arith, ints, valid.a_fits) in ap signed_decimal (k ∙ e)

pub y_factor : (h : HalfPlane) (x : ℤ) → IsHalfPlane h → x ≡ h.b → signed_decimal (to_z w64 (of_z w64 x)) ≡ signed_decimal h.b
y_factor h x valid e = let k : to_z w64 (of_z w64 x) ≡ x = omega (arith, ints, valid.b_fits) in ap signed_decimal (k ∙ e)

pub constant : (h : HalfPlane) (x : ℤ) → IsHalfPlane h → x ≡ h.c → signed_decimal (to_z w64 (of_z w64 x)) ≡ signed_decimal h.c
constant h x valid e = let k : to_z w64 (of_z w64 x) ≡ x = omega (arith, ints, valid.c_fits) in ap signed_decimal (k ∙ e)
