-- What the tests of segments and places answer; places carved out where nothing is left.
use Rattle.std.proofs.Common.{◌≡◌, ◌↔◌, ℕ, Bool, true, false, List, [], ◌∷◌, refl, sym, ◌∙◌, ap, map, drop, length, arith}
use Rattle.std.specs.List.{filter}
use Rattle.std.proofs.lemmas.Bool.Decides.{same_from_decides}
use Rattle.std.proofs.lemmas.Bool.{false≢true}
use Rattle.plane_terms.specs.Point.{Place}
use Rattle.plane_terms.specs.Segment.{Segment, IsSegment, Overlap, overlap}
use Rattle.plane_terms.specs.Cell.{Cell, out_of_place}
use Rattle.plane_terms.specs.declared.share.Share.{Share}
use Rattle.plane_terms.specs.declared.share.Share.TheVariants.{Nothing, Along, Cross, Touch}
use Rattle.topology_terms.specs.Cells.{uncovered, on_both}
use Rattle.rule_laws.proofs.Tests.{overlap_test}
use Rattle.rule_loops.specs.Apart.{uncovered-nil}

overlap_found : (s t : Segment) (r : Bool) → IsSegment s → IsSegment t → (r ≡ true) ↔ Overlap s t → r ≡ overlap s t
overlap_found s t r g h d = same_from_decides {P = Overlap s t} r (overlap s t) d (overlap_test s t g h)

abbrev pub is_along : Share → Bool
is_along Nothing = false
is_along Along = true
is_along Cross = false
is_along Touch = false

along_only : (k : Share) → is_along k ≡ true → k ≡ Along
along_only Nothing e = absurd (false≢true e)
along_only Along e = refl
along_only Cross e = absurd (false≢true e)
along_only Touch e = absurd (false≢true e)

pub overlap_told : (s t : Segment) (r k : Share) → IsSegment s → IsSegment t → (r ≡ Along) ↔ Overlap s t → r ≡ k → is_along k ≡ overlap s t
overlap_told s t r k g h d e =
    overlap_found s t (is_along k) g h (λ f. d.0 (e ∙ along_only k f), λ o. ap is_along (sym e ∙ d.1 o))

-- ---- places carved out, from the place of this number on
abbrev pub outs_from : Segment → Segment → List Place → ℕ → List (List Cell)
outs_from s t es i = map {A = Place} out_of_place (filter (on_both s t) (drop i es))

pub outs_none : (s t : Segment) (es : List Place) (i : ℕ) (left : List Cell) → length left ≡ 0 → uncovered left (outs_from s t es i) ≡ left
outs_none s t es i [] n = uncovered-nil (outs_from s t es i)
outs_none s t es i (c ∷ left) n = absurd (omega arith)
