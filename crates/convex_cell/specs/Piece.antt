-- A piece of a cell that is narrowed, and widened again.
--
-- IsPiece b s c       b are bounds of c, and where s is set, c has a point
-- IsMarkOf m c        the mark m says how long c is, roughly how far it reaches, and maybe that it has a point
-- IsNarrowed m c d e  e has the points of c that are in d, at least one, and begins with c, of which m is the mark
use Rattle.std.specs.Prelude.{◌≡◌, ◌↔◌, Bool, length, take}
use Rattle.std.specs.Bool.{OnTrue}
use Rattle.plane_terms.specs.Point.{Point}
use Rattle.plane_terms.specs.Cell.{Cell, InCell, HasPoint}
use Rattle.convex_cell.specs.declared.bounds.Bounds.{Bounds}
use Rattle.convex_cell.specs.declared.piece.Mark.{Mark}
use Rattle.convex_cell.specs.Span.{IsBoundsOf}

pub record IsPiece (b : Bounds) (s : Bool) (c : Cell) : Type 0 where
  pub bounds : IsBoundsOf b c
  pub some : OnTrue s (HasPoint c)

pub record IsMarkOf (m : Mark) (c : Cell) : Type 0 where
  pub long : m.len ≡ length c
  pub piece : IsPiece m.bounds m.is_some c

pub record IsNarrowed (m : Mark) (c d e : Cell) : Type 0 where
  pub points : (p : Point) → InCell e p ↔ (InCell c p × InCell d p)
  pub some : HasPoint e
  pub begins : take (length c) e ≡ c
  pub mark : IsMarkOf m c
