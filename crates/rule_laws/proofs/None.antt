-- Rules without a partner that are broken where none of those around the subject is: X of the subject, and C of none of them.
use Rattle.std.proofs.Common.{◌≡◌, ◌↔◌, false, List}
use Rattle.plane_terms.specs.Lists.{Every}
use Rattle.plane_terms.specs.Point.{Point}
use Rattle.plane_terms.specs.Rectangle.{RectHolds, holds_point}
use Rattle.plane_terms.specs.Cell.{Cell, InCells, HavePoints}
use Rattle.plane_terms.specs.declared.kind.Kind.{Kind}
use Rattle.topology_terms.specs.Feature.{Feature, Side, NoneOf, env, IsAscending}
use Rattle.topology_terms.specs.Together.{of_side}
use Rattle.plane_terms.proofs.ListLemmas.{every_filter, every_map}
use Rattle.rule_laws.proofs.Families.{IsFit}
use Rattle.rule_laws.proofs.Lists.{every_unfilter, side_each, side_every}
use Rattle.rule_laws.proofs.Around.{holds_test, round}
use Rattle.rule_laws.proofs.Alone.{AloneRule}

abbrev pub NoneThere : (Feature → Point → Type 0) → (Feature → Point → Type 0) → Feature → List Feature → Point → Type 0
NoneThere X C f gs p = X f p × Every (λ g. ¬ (C g p)) gs

pub record NoneRule (k l : Kind) (X C : Feature → Point → Type 0) (cells : Feature → List Feature → List Cell) : Type 0 where
  pub held_a : (f : Feature) (p : Point) → IsFit k f → X f p → RectHolds (env f) p
  pub held_b : (g : Feature) (p : Point) → IsFit l g → C g p → RectHolds (env g) p
  pub exact : (f : Feature) (gs : List Feature) (p : Point) → IsFit k f → Every (IsFit l) gs → InCells (cells f gs) p ↔ NoneThere X C f gs p
  pub some : (f : Feature) (gs : List Feature) → IsFit k f → Every (IsFit l) gs → HavePoints (cells f gs)

-- C of none in one list, then of none in another that is the same round the point
pub none_round : (l : Kind) (C : Feature → Point → Type 0) → ((g : Feature) (p : Point) → IsFit l g → C g p → RectHolds (env g) p)
    → (gs hs : List Feature) (p : Point) → Every (IsFit l) hs → round p gs ≡ round p hs → Every (λ g. ¬ (C g p)) gs
    → Every (λ g. ¬ (C g p)) hs
none_round l C held gs hs p u e n =
    let kept : Every (λ g. ¬ (C g p)) (round p hs) = rw e at (every_filter (λ g. ¬ (C g p)) (λ g. holds_point (env g) p) gs n) in
    every_unfilter (λ g. ¬ (C g p)) (λ g. holds_point (env g) p) hs
    (every_map (IsFit l) (λ g. holds_point (env g) p ≡ false → ¬ (C g p))
    (λ g i t c. let k = holds_test (env g) p (held g p i c) in absurd cc) hs u) kept

pub none_alone : (k l : Kind) (X C : Feature → Point → Type 0) (cells : Feature → List Feature → List Cell) → NoneRule k l X C cells
    → AloneRule k l (NoneThere X C) cells
none_alone k l X C cells R = record {
  held = λ f gs p u h. R.held_a f p u h.0;
  local = λ f gs hs p u v w m e h. (h.0, none_round l C R.held_b gs hs p w e h.1);
  exact = λ f gs p u v o. R.exact f gs p u v;
  some = R.some;
}

-- of a side: none as a fact of the map, and of the list
pub none_of : (P : Feature → Type 0) (S : Side) (F : List Feature) → IsAscending F → NoneOf F S P ↔ Every (λ g. ¬ (P g)) (of_side S F)
none_of P S F u = ((λ n. side_each (λ g. ¬ (P g)) S F u n), (λ k. side_every (λ g. ¬ (P g)) S F k))
