use Rattle.std.proofs.Common.{◌∙◌, ℕ, List, map, length, ap, subst, sym}
use Rattle.plane_terms.specs.Cell.{Cell, weak_of}
use Rattle.convex_cell.specs.Flat.{cells_at, AreEnds}
use Rattle.convex_cell.proofs.Flats.{cells_weak, ends_weak}
use Rattle.convex_cell.proofs.cells.Cells.weaken.Goals as goal

pub invariant_of-self : goal.invariant_of-self
invariant_of-self c =
    let hs : Cell = c.self.inside.halves.items in
    let es : List ℕ = c.self.inside.ends.items in
    subst (λ (ks : Cell). AreEnds 0 es (length ks)) (sym c.weaken_all.ensures) (ends_weak hs 0 es c.self.invariant)

pub returns : goal.returns
returns c =
    let hs : Cell = c.self.inside.halves.items in
    let es : List ℕ = c.self.inside.ends.items in
    ap (λ (ks : Cell). cells_at ks 0 es) c.weaken_all.ensures ∙ (cells_weak hs 0 es ∙ ap (map {A = Cell} weak_of) c.self.view_is)
