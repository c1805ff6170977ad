use Rattle.std.proofs.Common.{◌↔◌, List, [], ◌∷◌, ◌++◌, take, arith, sym, ap, ◌∙◌, subst}
use Rattle.std.proofs.lemmas.List.{take_all, take_more}
use Rattle.plane_terms.specs.Lists.{SomeOf}
use Rattle.plane_terms.specs.HalfPlane.{HalfPlane}
use Rattle.plane_terms.specs.Cell.{InCell, weak_of}
use Rattle.cell_corners.specs.declared.corner.Corner.{Corner}
use Rattle.plane_terms.specs.Corners.{MeetAt}
use Rattle.cell_corners.specs.Listed.{Stands}
use Rattle.cell_corners.specs.Lists.{AreListed}
use Rattle.cell_corners.proofs.OnLines.{lines_more, lines_all}
use Rattle.cell_corners.proofs.corners.corners_by_lines.Goals as goal

pub loop-half-init : goal.loop-half-init
loop-half-init c =
    let none = c.new-found.ensures.items in record {
      listed = subst AreListed (sym none) (record { fit = tt; lowest = tt; ascending = tt });
      found = λ p. (
        λ s. absurd (subst (λ (ks : List Corner). Stands ks p) none s),
        λ m. absurd m.1,
      );
    }

pub put_ends-requires : goal.put_ends-requires
put_ends-requires c = c.loop-half.invariant.listed

pub loop-half-preserved : goal.loop-half-preserved
loop-half-preserved c =
    let xs = c.args.halves.now in
    let i = c.loop-half.half-index in
    let more = take_more xs i c.half-item.result c.loop-half-test.true ∙ ap (λ (y : HalfPlane). take i xs ++ y ∷ []) (sym c.half-item.is) in record {
      listed = c.in_ok-put_ends.ensures.listed;
      found = λ p. subst (λ (hs : List HalfPlane). Stands c.put_ends.new.found.items p
          ↔ (InCell (weak_of xs) p × SomeOf (λ h. SomeOf (λ g. MeetAt p h g) xs) hs)) (sym more)
          (lines_more p xs (take i xs) c.half-item.result _ _ (c.loop-half.invariant.found p) (c.in_ok-put_ends.ensures.found p));
    }

pub returns-clause-exact : goal.returns-clause-exact
returns-clause-exact c = λ p.
    lines_all p c.args.halves.now _ (subst (λ (hs : List HalfPlane). Stands c.loop-half.found.items p
    ↔ (InCell (weak_of c.args.halves.now) p × SomeOf (λ h. SomeOf (λ g. MeetAt p h g) c.args.halves.now) hs)) (take_all _ _ (omega arith))
    (c.loop-half.invariant.found p))

pub returns-clause-listed : goal.returns-clause-listed
returns-clause-listed c = c.loop-half.invariant.listed
