use Rattle.std.proofs.Common.{◌≡◌, ◌++◌, ◌∷◌, drop}
use Rattle.plane_terms.specs.Carve.{kept}
use Rattle.column_laws.specs.Rising.{IsRising}
use Rattle.column_cut.specs.Parity.{is_even}
use Rattle.column_cut.specs.Strips.{strips}
use Rattle.column_cut.proofs.cut.push_each.Given as goal

abbrev pub invariant-loop-right : goal.invariant-loop-right
invariant-loop-right l = record {
  rising : IsRising (l.left ∷ drop l.right-index l.rest);
  done : l.cells ++ kept (strips (is_even l.parity) l.segments l.left (drop l.right-index l.rest))
      ≡ l.initial.cells ++ kept (strips (is_even l.parity) l.segments l.first l.rest);
}
