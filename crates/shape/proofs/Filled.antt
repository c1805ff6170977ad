-- Lines and polygons of which no ring is lacking or too short.
use Rattle.std.proofs.Common.{◌≡◌, ℕ, suc, ◌+◌, ◌≤◌, true, false, inl, inr, List, [], ◌∷◌, length, Vec, Some, None, refl, sym, ap, subst, ◌∙◌, arith}
use Rattle.std.proofs.lemmas.List.{length-map}
use Rattle.std.specs.Bool.{◌==◌}
use Rattle.std.specs.Global.{Global}
use Rattle.plane_terms.specs.Lists.{Every, SomeOf}
use Rattle.plane_terms.specs.Point.{Place}
use Rattle.plane_terms.specs.Shape.{Shape, rings_of, vertices_of}
use Rattle.plane_terms.specs.declared.kind.Kind.TheVariants as kind
use Rattle.shape.specs.Given.{Ring, rings_in, lines_in, polygons_in, all_rings, all_vertices}
use Rattle.plane_terms.specs.ShapeFaults.{least, IsShort, LacksRings, IsFirstOf, IsFew, NoneFew, NoneMany}
use Rattle.shape.specs.Counts.{first_short, has_bare_part, IsFull}
use Rattle.shape.specs.Form.{line_shape, polygon_shape}
use Rattle.shape.proofs.Shorts.{short_first, none_short, none_first, long_none, bare_some, bare_none}

-- ---- a line's rings are its parts
pub line_rings : (ps : List Ring) → all_rings (lines_in ps) ≡ rings_in ps
line_rings [] = refl
line_rings (p ∷ ps) = ap (λ rs. p.items ∷ rs) (line_rings ps)

pub line_count : (ps : List Ring) → length (all_rings (lines_in ps)) ≡ length ps
line_count ps = ap (λ rs. length rs) (line_rings ps) ∙ length-map ps (λ (ring : Ring). ring.items)

pub line_vertices : (ps : List Ring) → all_vertices (all_rings (lines_in ps)) ≡ all_vertices (rings_in ps)
line_vertices ps = ap all_vertices (line_rings ps)

line_not_bare : (ps : List Ring) → ¬ (SomeOf (λ part. part ≡ []) (lines_in ps))
line_not_bare [] h = h
line_not_bare (p ∷ ps) (inl e) = cc
line_not_bare (p ∷ ps) (inr h) = line_not_bare ps h

line_ringed : (ps : List Ring) → (length ps == 0) ≡ false → ¬ (LacksRings (line_shape ps))
line_ringed [] e h = cc
line_ringed (p ∷ ps) e (inl h) = cc
line_ringed (p ∷ ps) e (inr h) = line_not_bare (p ∷ ps) h

polygon_ringed : (ps : List (Vec Ring Global)) → (length ps == 0) ≡ false → has_bare_part (polygons_in ps) ≡ false
    → ¬ (LacksRings (polygon_shape ps))
polygon_ringed [] e b h = cc
polygon_ringed (p ∷ ps) e b (inl h) = cc
polygon_ringed (p ∷ ps) e b (inr h) = bare_none (polygons_in (p ∷ ps)) b h

-- ---- no fault of the counts
pub none_few : (s : Shape) → IsFull s → NoneFew s
none_few s f n (inl k) = f.ringed k.0
none_few s f n (inr k) = none_first (IsShort s.kind) (rings_of s) n (long_none s.kind (rings_of s) f.long) k.1

pub none_many : (s : Shape) → IsFull s → NoneMany s
none_many s f n m = omega (arith, f.few, m.0, m.1)

few_none : (s : Shape) → ¬ (LacksRings s) → Every (λ ring. least s.kind ≤ length ring) (rings_of s) → NoneFew s
few_none s r l n (inl k) = r k.0
few_none s r l n (inr k) = none_first (IsShort s.kind) (rings_of s) n (long_none s.kind (rings_of s) l) k.1

no_zero : (n : ℕ) → (suc n == 0) ≡ true → ⊥
no_zero n e = grind arith

-- ---- lines
line_long : (ps : List Ring) → first_short 2 0 (rings_in ps) ≡ None → Every (λ ring. 2 ≤ length ring) (rings_of (line_shape ps))
line_long ps e =
    subst (λ (rs : List (List Place)). Every (λ ring. 2 ≤ length ring) rs) (sym (line_rings ps)) (none_short kind.Line 0 (rings_in ps) e)

pub line_empty : (ps : List Ring) → (length ps == 0) ≡ true → IsFew (line_shape ps) 0
line_empty [] e = inl (inl refl, refl)
line_empty (p ∷ ps) e = absurd (no_zero (length ps) e)

pub line_few : (ps : List Ring) (n : ℕ) → (length ps == 0) ≡ false → first_short 2 0 (rings_in ps) ≡ Some n → IsFew (line_shape ps) n
line_few ps n e f =
    inr (
      line_ringed ps e,
      subst (λ (rs : List (List Place)). IsFirstOf (IsShort kind.Line) rs n) (sym (line_rings ps))
          (short_first kind.Line n (rings_in ps) f),
    )

pub line_none_few : (ps : List Ring) → (length ps == 0) ≡ false → first_short 2 0 (rings_in ps) ≡ None → NoneFew (line_shape ps)
line_none_few ps e f = few_none (line_shape ps) (line_ringed ps e) (line_long ps f)

pub line_many : (ps : List Ring) (n : ℕ) → n ≡ 0 + length (all_vertices (rings_in ps)) → n ≡ length (vertices_of (line_shape ps))
line_many ps n e = omega (arith, e, ap (λ (vs : List Place). length vs) (line_vertices ps))

pub line_full : (ps : List Ring) (n : ℕ) → (length ps == 0) ≡ false → first_short 2 0 (rings_in ps) ≡ None
    → n ≡ 0 + length (all_vertices (rings_in ps)) → n ≤ 2000 → IsFull (line_shape ps)
line_full ps n e f h l = record { ringed = line_ringed ps e; long = line_long ps f; few = omega (arith, line_many ps n h, l) }

-- ---- polygons
pub polygon_empty : (ps : List (Vec Ring Global)) → (length ps == 0) ≡ true → IsFew (polygon_shape ps) 0
polygon_empty [] e = inl (inl refl, refl)
polygon_empty (p ∷ ps) e = absurd (no_zero (length ps) e)

pub polygon_bare : (ps : List (Vec Ring Global)) → has_bare_part (polygons_in ps) ≡ true → IsFew (polygon_shape ps) 0
polygon_bare ps e = inl (inr (bare_some (polygons_in ps) e), refl)

pub polygon_few : (ps : List (Vec Ring Global)) (n : ℕ) → (length ps == 0) ≡ false → has_bare_part (polygons_in ps) ≡ false
    → first_short 3 0 (all_rings (polygons_in ps)) ≡ Some n → IsFew (polygon_shape ps) n
polygon_few ps n e b f = inr (polygon_ringed ps e b, short_first kind.Polygon n (all_rings (polygons_in ps)) f)

pub polygon_none_few : (ps : List (Vec Ring Global)) → (length ps == 0) ≡ false → has_bare_part (polygons_in ps) ≡ false
    → first_short 3 0 (all_rings (polygons_in ps)) ≡ None → NoneFew (polygon_shape ps)
polygon_none_few ps e b f = few_none (polygon_shape ps) (polygon_ringed ps e b) (none_short kind.Polygon 0 (all_rings (polygons_in ps)) f)

pub polygon_full : (ps : List (Vec Ring Global)) (n : ℕ) → (length ps == 0) ≡ false → has_bare_part (polygons_in ps) ≡ false
    → first_short 3 0 (all_rings (polygons_in ps)) ≡ None → n ≡ length (vertices_of (polygon_shape ps)) → n ≤ 2000
    → IsFull (polygon_shape ps)
polygon_full ps n e b f h l =
    record { ringed = polygon_ringed ps e b; long = none_short kind.Polygon 0 (all_rings (polygons_in ps)) f; few = omega (arith, h, l) }
