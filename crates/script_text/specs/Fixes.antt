-- The places of fixes as the code holds them and answers them.
--
-- AreOf x y q          these stand for the two numbers of the place q
-- IsOut first q e      a number of the place is beyond the reach, and e tells its position, where that of the place's first number is `first`
-- IsNoPlace ns e       these numbers are no places', and e says why
use Rattle.std.specs.Prelude.{◌≡◌, ◌+◌, ℕ, ℤ, List}
use Rattle.plane_terms.specs.Point.{Place}
use Rattle.plane_terms.specs.Rectangle.{IsFirstOut}
use Rattle.line_terms.specs.Lines.{coordinates, IsPlaceFault}
use Rattle.line_terms.specs.declared.line_refusal.LineRefusal.TheVariants.{OutOfReach}
use Rattle.script_text.specs.Wholes.{StandsFor}
use Rattle.script_text.specs.declared.fault.LineFault.{LineFault}
use Rattle.script_text.specs.declared.fault.LineFault.TheVariants.{Refused, NoMemory}
use Rattle.script_text.specs.declared.whole.Whole.{Whole}

pub record AreOf (x y : Whole) (q : Place) : Type 0 where
  pub x_is : StandsFor x q.x
  pub y_is : StandsFor y q.y

abbrev pub IsOut : ℕ → Place → LineFault → Type 0
IsOut first q e = (k : ℕ) × IsFirstOut k (coordinates q) × (e ≡ Refused (OutOfReach (first + k)))

abbrev pub IsNoPlace : List ℤ → LineFault → Type 0
IsNoPlace ns (Refused r) = IsPlaceFault ns r
IsNoPlace ns NoMemory = ⊥
