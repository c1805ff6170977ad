-- Four numbers that are no rectangle fail the test of one, and those that pass it are one.
use Rattle.std.proofs.Common.{ℕ, pos, negsuc, zero, suc, ◌≡◌, ◌≤ℤ◌, true, false, refl, inl, inr, arith}
use Rattle.std.proofs.lemmas.Bool.{cases_Bool, and_parts}
use Rattle.std.proofs.lemmas.Int.{ints}
use Rattle.number_laws.proofs.Tests.{Decides-int_le}
use Rattle.plane_terms.specs.Point.{InReach}
use Rattle.plane_terms.specs.Rectangle.{Rectangle, IsProper, IsRectangle, numbers_of, IsFirstOut}
use Rattle.grid_plane.specs.Rectangles.{IsRectFault}
use Rattle.grid_plane.specs.declared.fault.RectFault.{RectFault}
use Rattle.grid_plane.specs.declared.fault.RectFault.TheVariants.{OutOfReach, Reversed}
use Rattle.project_terms.specs.Drafts.{is_rectangle}

pub record AreSides (r : Rectangle) : Type 0 where
  pub x0 : InReach r.x0
  pub y0 : InReach r.y0
  pub x1 : InReach r.x1
  pub y1 : InReach r.y1
  pub proper : IsProper r

pub sides : (r : Rectangle) → is_rectangle r ≡ true → AreSides r
sides r h =
    let b = and_parts _ _ h in
    let w1 = and_parts _ _ b.0 in
    let w2 = and_parts _ _ w1.1 in
    let w3 = and_parts _ _ w2.1 in
    let o = and_parts _ _ b.1 in
    let left : negsuc 4194303 ≤ℤ r.x0 = (Decides-int_le (negsuc 4194303) r.x0).0 w1.0 in
    let right : r.x1 ≤ℤ pos 4194304 = (Decides-int_le r.x1 (pos 4194304)).0 w2.0 in
    let below : negsuc 4194303 ≤ℤ r.y0 = (Decides-int_le (negsuc 4194303) r.y0).0 w3.0 in
    let above : r.y1 ≤ℤ pos 4194304 = (Decides-int_le r.y1 (pos 4194304)).0 w3.1 in
    let wide : r.x0 ≤ℤ r.x1 = (Decides-int_le r.x0 r.x1).0 o.0 in
    let high : r.y0 ≤ℤ r.y1 = (Decides-int_le r.y0 r.y1).0 o.1 in
    record {
      x0 = record { low = left; high = omega (arith, ints) };
      y0 = record { low = below; high = omega (arith, ints) };
      x1 = record { low = omega (arith, ints); high = right };
      y1 = record { low = omega (arith, ints); high = above };
      proper = record { wide = wide; high = high };
    }

pub rectangle_there : (r : Rectangle) → is_rectangle r ≡ true → IsRectangle r
rectangle_there r h =
    let s = sides r h in
    record { proper = s.proper; on_grid = record { left = s.x0.low; right = s.x1.high; below = s.y0.low; above = s.y1.high } }

pub rectangle_true : (r : Rectangle) → IsRectangle r → is_rectangle r ≡ true
rectangle_true r h =
    let left = (Decides-int_le (negsuc 4194303) r.x0).1 h.on_grid.left in
    let right = (Decides-int_le r.x1 (pos 4194304)).1 h.on_grid.right in
    let below = (Decides-int_le (negsuc 4194303) r.y0).1 h.on_grid.below in
    let above = (Decides-int_le r.y1 (pos 4194304)).1 h.on_grid.above in
    let wide = (Decides-int_le r.x0 r.x1).1 h.proper.wide in
    let high = (Decides-int_le r.y0 r.y1).1 h.proper.high in
    rw (left, right, below, above, wide, high) refl

none_out : (k : ℕ) (r : Rectangle) → AreSides r → IsFirstOut k (numbers_of r) → ⊥
none_out zero r s o = o s.x0
none_out (suc zero) r s o = o.1 s.y0
none_out (suc (suc zero)) r s o = o.1.1 s.x1
none_out (suc (suc (suc zero))) r s o = o.1.1.1 s.y1
none_out (suc (suc (suc (suc k)))) r s o = o.1.1.1.1

no_fault : (r : Rectangle) (e : RectFault) → AreSides r → IsRectFault e r → ⊥
no_fault r (OutOfReach at) s h = none_out at r s h
no_fault r Reversed s h = h.1 s.proper

pub no_rectangle : (r : Rectangle) (e : RectFault) → IsRectFault e r → is_rectangle r ≡ false
no_rectangle r e h = elim (cases_Bool (is_rectangle r)) [ inl t ↦ absurd (no_fault r e (sides r t) h) | inr f ↦ f ]
