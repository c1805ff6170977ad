use Rattle.std.proofs.Common.{◌↔◌, ℕ, ℤ, ◌<◌, take, All}
use Rattle.convex_cell.specs.Range.{IsRange, InRange}
use Rattle.convex_cell.specs.Seen.{seen}
use Rattle.convex_cell.specs.Line.{SaysOn}
use Rattle.convex_cell.proofs.line.cut_on_line.Given as goal

abbrev pub invariant-loop-half : goal.invariant-loop-half
invariant-loop-half l = record {
  fits : IsRange l.range;
  both : (t : ℤ) → (w : ℕ) → 0 < w → (InRange l.range t w
      ↔ (InRange l.initial.range t w × All (λ h. SaysOn l.line (seen l.direction h) t w) (take l.half-index l.halves)));
}
