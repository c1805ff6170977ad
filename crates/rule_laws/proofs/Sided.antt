-- Where a shape has an end, it has a segment.
use Rattle.std.proofs.Common.{◌≡◌, inl, inr, ◌≤◌, ◌≤ℤ◌, Bool, true, false, refl, sym, ◌∙◌, subst, List, [], ◌∷◌, length, arith}
use Rattle.std.specs.Prelude.{flat_map, ◌&&◌, ◌||◌, if◌then◌else◌}
use Rattle.std.proofs.lemmas.Bool.{false≢true, or_cases, or_left, or_right}
use Rattle.std.proofs.lemmas.Int.{ints, clamps}
use Rattle.std.proofs.lemmas.List.Folds.{list_any-append}
use Rattle.plane_terms.specs.Lists.{Every}
use Rattle.plane_terms.specs.Point.{Place, same_place}
use Rattle.plane_terms.specs.Segment.{Segment, comes_before, segment_between}
use Rattle.plane_terms.specs.Shape.{Shape, path, segments_by, segments_of, rings_of, last_of, two_ends, ends_by, ends_of, IsRing, IsShape}
use Rattle.plane_terms.specs.Line.{holds_place}
use Rattle.plane_terms.specs.declared.kind.Kind.{Kind}
use Rattle.plane_terms.specs.declared.kind.Kind.TheVariants as shapes
use Rattle.topology_terms.specs.Tests.{holds_at, has_end_at}
use Rattle.cell_laws.proofs.OnLine.{on_lo, on_hi}
use Rattle.cell_laws.proofs.AtPlaces.{turn_on, same_is}
use Rattle.column_laws.proofs.Parity.{in_order, out_of_order}
use Rattle.rule_laws.proofs.Tests.{holds_by}

-- ---- a segment holds what it was drawn from and to
holds_lo : (s : Segment) → s.lo.x ≤ℤ s.hi.x → holds_place s s.lo ≡ true
holds_lo s l = holds_by s s.lo (turn_on s s.lo (on_lo s)) (omega (arith, ints, clamps))

holds_hi : (s : Segment) → s.lo.x ≤ℤ s.hi.x → holds_place s s.hi ≡ true
holds_hi s l = holds_by s s.hi (turn_on s s.hi (on_hi s)) (omega (arith, ints, clamps))

record HoldsBoth (s : Segment) (a b : Place) : Type 0 where
  from : holds_place s a ≡ true
  to : holds_place s b ≡ true

holds_both : (a b : Place) → HoldsBoth (segment_between a b) a b
holds_both a b = by_order (comes_before a b) refl
  where
    by_order : (t : Bool) → comes_before a b ≡ t
        → HoldsBoth (if t then record { lo = a; hi = b; turned = false } else record { lo = b; hi = a; turned = true }) a b
    by_order true e =
        let s : Segment = record { lo = a; hi = b; turned = false } in
        let l = in_order a b e in
        record { from = holds_lo s l; to = holds_hi s l }
    by_order false e =
        let s : Segment = record { lo = b; hi = a; turned = true } in
        let l = out_of_order a b e in
        record { from = holds_hi s l; to = holds_lo s l }

-- ---- the first and the last vertex of a part
first_on : (p q : Place) (ps : List Place) → holds_at (path (p ∷ q ∷ ps)) p ≡ true
first_on p q ps = or_left (holds_place (segment_between p q) p) (holds_at (path (q ∷ ps)) p) (holds_both p q).from

last_on : (p q : Place) (ps : List Place) → holds_at (path (p ∷ q ∷ ps)) (last_of q ps) ≡ true
last_on p q [] = or_left (holds_place (segment_between p q) q) (holds_at (path (q ∷ [])) q) (holds_both p q).to
last_on p q (r ∷ ps) =
    or_right (holds_place (segment_between p q) (last_of r ps)) (holds_at (path (q ∷ r ∷ ps)) (last_of r ps)) (last_on q r ps)

ring_sided : (ring : List Place) (q : Place) → 2 ≤ length ring → has_end_at (two_ends ring) q ≡ true → holds_at (path ring) q ≡ true
ring_sided [] q l e = absurd (omega (arith, l))
ring_sided (p ∷ []) q l e = absurd (omega (arith, l))
ring_sided (p ∷ r ∷ ps) q l e = elim (or_cases (same_place q p) (same_place q (last_of r ps) || false) e) [
  | inl t ↦ subst (λ (x : Place). holds_at (path (p ∷ r ∷ ps)) x ≡ true) (sym (same_is q p t)) (first_on p r ps)
  | inr t ↦ elim (or_cases (same_place q (last_of r ps)) false t) [
    | inl k ↦ subst (λ (x : Place). holds_at (path (p ∷ r ∷ ps)) x ≡ true) (sym (same_is q (last_of r ps) k)) (last_on p r ps)
    | inr k ↦ absurd (false≢true k)
  ]
]

rings_sided : (rings : List (List Place)) (q : Place) → Every (IsRing shapes.Line) rings → has_end_at (flat_map two_ends rings) q ≡ true
    → holds_at (flat_map path rings) q ≡ true
rings_sided [] q u e = absurd (false≢true e)
rings_sided (ring ∷ rings) q u e =
    let ends = list_any-append (same_place q) (two_ends ring) (flat_map two_ends rings) in
    let sides = list_any-append (λ (t : Segment). holds_place t q) (path ring) (flat_map path rings) in
    sides ∙ elim (or_cases (has_end_at (two_ends ring) q) (has_end_at (flat_map two_ends rings) q) (sym ends ∙ e)) [
      | inl t ↦ or_left (holds_at (path ring) q) (holds_at (flat_map path rings) q) (ring_sided ring q u.0.0 t)
      | inr t ↦ or_right (holds_at (path ring) q) (holds_at (flat_map path rings) q) (rings_sided rings q u.1 t)
    ]

pub end_sided : (s : Shape) (q : Place) → IsShape s → has_end_at (ends_of s) q ≡ true → holds_at (segments_of s) q ≡ true
end_sided s q v e = by_kind s.kind (rings_of s) v.rings e
  where
    by_kind : (k : Kind) (rings : List (List Place)) → Every (IsRing k) rings → has_end_at (ends_by k rings) q ≡ true
        → holds_at (segments_by k rings) q ≡ true
    by_kind shapes.Point rings u e = absurd (false≢true e)
    by_kind shapes.Line rings u e = rings_sided rings q u e
    by_kind shapes.Polygon rings u e = absurd (false≢true e)

-- so of a shape the test of an end says both
pub end_is_sided : (s : Shape) (q : Place) → IsShape s → (has_end_at (ends_of s) q && holds_at (segments_of s) q) ≡ has_end_at (ends_of s) q
end_is_sided s q v = by_test (has_end_at (ends_of s) q) (holds_at (segments_of s) q) (end_sided s q v)
  where
    by_test : (a b : Bool) → (a ≡ true → b ≡ true) → (a && b) ≡ a
    by_test a b m = grind arith
