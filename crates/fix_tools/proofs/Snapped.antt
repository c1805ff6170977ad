-- A line with an end elsewhere, as the code makes it.
use Rattle.std.proofs.Common.{◌≡◌, ℕ, zero, suc, ◌+◌, ◌-◌, ◌*◌, ◌/◌, ◌%◌, ◌<◌, ◌≤◌, List, [], ◌∷◌, ◌++◌, length, get_or, map, flat_map, take, drop, arith, refl, sym, ap, ◌∙◌, length-append, inl, inr, ◌⊎◌}
use Rattle.std.proofs.lemmas.List.{take_all, length-map, length-drop}
use Rattle.plane_terms.specs.Lists.{Every}
use Rattle.plane_terms.specs.Point.{Place}
use Rattle.plane_terms.specs.Shape.{Shape, shape_of, rings_of, two_ends, ends_of, IsShape}
use Rattle.plane_terms.specs.declared.kind.Kind.TheVariants as kind
use Rattle.shape.specs.Given.{Ring, rings_in, lines_in, all_rings, all_vertices, IsCountable}
use Rattle.shape.proofs.Filled.{line_rings}
use Rattle.shape.proofs.Made.{line_parts as made_parts}
use Rattle.shape.proofs.Ends.{ends_counted}
use Rattle.fix_tools.specs.Explode.{IsLinePart}
use Rattle.fix_terms.specs.Snap.{with_first, with_last, with_end, snapped_shape}
use Rattle.fix_tools.proofs.LineParts.{map_more, parts_are}
use Rattle.fix_tools.proofs.LineEnds.{ends_are}
use Rattle.fix_tools.proofs.MovedParts.{rings_few}

-- ---- one part
last_by : (to : Place) (vs : List Place) → 1 ≤ length vs → with_last to vs ≡ take (length vs - 1) vs ++ to ∷ []
last_by to [] h = absurd (omega (arith, h))
last_by to (v ∷ []) h = refl
last_by to (v ∷ w ∷ vs) h =
    let n : length (v ∷ w ∷ vs) - 1 ≡ suc (length (w ∷ vs) - 1) = omega arith in
    ap (λ (us : List Place). v ∷ us) (last_by to (w ∷ vs) (omega arith))
    ∙ ap (λ (k : ℕ). take k (v ∷ w ∷ vs) ++ to ∷ []) (sym n)

pub last_made : (to : Place) (vs made more all : List Place) → 1 ≤ length vs → made ≡ [] → more ≡ made ++ take (length vs - 1) vs
    → all ≡ more ++ to ∷ [] → all ≡ with_last to vs
last_made to vs made more all h e f g =
    g ∙ ap (λ (us : List Place). us ++ to ∷ []) (f ∙ ap (λ (us : List Place). us ++ take (length vs - 1) vs) e) ∙ sym (last_by to vs h)

-- ---- one part of all
first_set : (to : Place) (k : ℕ) (ps : List Ring) (x : Ring) → k < length ps → x ≡ get_or ps k x
    → with_end (2 * k) to (rings_in ps) ≡ rings_in (take k ps) ++ with_first to x.items ∷ rings_in (drop (k + 1) ps)
first_set to k [] x h e = absurd (omega (arith, h))
first_set to zero (p ∷ ps) x h e = ap (λ (r : Ring). with_first to r.items ∷ rings_in ps) (sym e)
first_set to (suc k) (p ∷ ps) x h e =
    let n : 2 * suc k ≡ suc (suc (2 * k)) = omega arith in
    let m : suc k + 1 ≡ suc (k + 1) = omega arith in
    ap (λ (j : ℕ). with_end j to (rings_in (p ∷ ps))) n
    ∙ ap (λ (rs : List (List Place)). p.items ∷ rs) (first_set to k ps x (omega (arith, h)) e)
    ∙ ap (λ (j : ℕ). p.items ∷ rings_in (take k ps) ++ with_first to x.items ∷ rings_in (drop j (p ∷ ps))) (sym m)

last_set : (to : Place) (k : ℕ) (ps : List Ring) (x : Ring) → k < length ps → x ≡ get_or ps k x
    → with_end (2 * k + 1) to (rings_in ps) ≡ rings_in (take k ps) ++ with_last to x.items ∷ rings_in (drop (k + 1) ps)
last_set to k [] x h e = absurd (omega (arith, h))
last_set to zero (p ∷ ps) x h e = ap (λ (r : Ring). with_last to r.items ∷ rings_in ps) (sym e)
last_set to (suc k) (p ∷ ps) x h e =
    let n : 2 * suc k + 1 ≡ suc (suc (2 * k + 1)) = omega arith in
    let m : suc k + 1 ≡ suc (k + 1) = omega arith in
    ap (λ (j : ℕ). with_end j to (rings_in (p ∷ ps))) n
    ∙ ap (λ (rs : List (List Place)). p.items ∷ rs) (last_set to k ps x (omega (arith, h)) e)
    ∙ ap (λ (j : ℕ). p.items ∷ rings_in (take k ps) ++ with_last to x.items ∷ rings_in (drop j (p ∷ ps))) (sym m)

end_set : (i : ℕ) (to : Place) (ps : List Ring) (x : Ring) (new : List Place) → i < 2 * length ps → x ≡ get_or ps (i / 2) x
    → (i % 2 ≡ 0 → new ≡ with_first to x.items) → (i % 2 ≡ 1 → new ≡ with_last to x.items)
    → with_end i to (rings_in ps) ≡ rings_in (take (i / 2) ps) ++ new ∷ rings_in (drop (i / 2 + 1) ps)
end_set i to ps x new h e even odd = elim (either i) [
  | inl z ↦
      let n : i ≡ 2 * (i / 2) = omega (arith, z) in
      ap (λ (j : ℕ). with_end j to (rings_in ps)) n ∙ first_set to (i / 2) ps x (omega (arith, h)) e
      ∙ ap (λ (vs : List Place). rings_in (take (i / 2) ps) ++ vs ∷ rings_in (drop (i / 2 + 1) ps)) (sym (even z))
  | inr z ↦
      let n : i ≡ 2 * (i / 2) + 1 = omega (arith, z) in
      ap (λ (j : ℕ). with_end j to (rings_in ps)) n ∙ last_set to (i / 2) ps x (omega (arith, h)) e
      ∙ ap (λ (vs : List Place). rings_in (take (i / 2) ps) ++ vs ∷ rings_in (drop (i / 2 + 1) ps)) (sym (odd z))
]
  where
    by : (m : ℕ) → m < 2 → (m ≡ 0) ⊎ (m ≡ 1)
    by zero l = inl refl
    by (suc zero) l = inr refl
    by (suc (suc m)) l = absurd (omega (arith, l))

    either : (i : ℕ) → (i % 2 ≡ 0) ⊎ (i % 2 ≡ 1)
    either i = by (i % 2) (omega arith)

rest_all : (ps : List Ring) (n : ℕ) → take (length ps - n) (drop n ps) ≡ drop n ps
rest_all ps n = let e = length-drop n ps in take_all (length ps - n) (drop n ps) (omega (arith, e))

pub parts_made : (i : ℕ) (to : Place) (ps : List Ring) (x new : Ring) (made before with all : List Ring) → i < 2 * length ps
    → x ≡ get_or ps (i / 2) x → (i % 2 ≡ 0 → new.items ≡ with_first to x.items) → (i % 2 ≡ 1 → new.items ≡ with_last to x.items)
    → made ≡ [] → rings_in before ≡ rings_in made ++ rings_in (take (i / 2) ps) → with ≡ before ++ new ∷ []
    → rings_in all ≡ rings_in with ++ rings_in (take (length ps - (i / 2 + 1)) (drop (i / 2 + 1) ps))
    → rings_in all ≡ with_end i to (rings_in ps)
parts_made i to ps x new made before with all h e even odd m b w a =
    let first = take (i / 2) ps in
    let rest = drop (i / 2 + 1) ps in
    let before_is : rings_in before ≡ rings_in first = b ∙ ap (λ (rs : List Ring). rings_in rs ++ rings_in first) m in
    let with_is : rings_in with ≡ rings_in first ++ new.items ∷ [] =
    ap (λ (rs : List Ring). rings_in rs) w ∙ map_more (λ (ring : Ring). ring.items) before new
    ∙ ap (λ (rs : List (List Place)). rs ++ new.items ∷ []) before_is in
    a ∙ ap (λ (rs : List Ring). rings_in with ++ rings_in rs) (rest_all ps (i / 2 + 1))
    ∙ ap (λ (rs : List (List Place)). rs ++ rings_in rest) with_is ∙ one_in (rings_in first) new.items (rings_in rest)
    ∙ sym (end_set i to ps x new.items h e even odd)
  where
    one_in : (us : List (List Place)) (v : List Place) (ws : List (List Place)) → (us ++ v ∷ []) ++ ws ≡ us ++ v ∷ ws
    one_in [] v ws = refl
    one_in (u ∷ us) v ws = ap (λ (rs : List (List Place)). u ∷ rs) (one_in us v ws)

-- ---- how many there are
first_length : (to : Place) (ring : List Place) → length (with_first to ring) ≡ length ring
first_length to [] = refl
first_length to (v ∷ vs) = refl

last_length : (to : Place) (ring : List Place) → length (with_last to ring) ≡ length ring
last_length to [] = refl
last_length to (v ∷ []) = refl
last_length to (v ∷ w ∷ vs) = ap suc (last_length to (w ∷ vs))

rings_same : (i : ℕ) (to : Place) (rings : List (List Place)) → length (with_end i to rings) ≡ length rings
rings_same i to [] = refl
rings_same zero to (r ∷ rs) = refl
rings_same (suc zero) to (r ∷ rs) = refl
rings_same (suc (suc i)) to (r ∷ rs) = ap suc (rings_same i to rs)

joined_length : (r s : List Place) (us vs : List Place) → length r ≡ length s → length us ≡ length vs → length (r ++ us) ≡ length (s ++ vs)
joined_length r s us vs e f =
    let a = length-append r us in
    let b = length-append s vs in
    omega (arith, a, b, e, f)

vertices_same : (i : ℕ) (to : Place) (rings : List (List Place)) → length (all_vertices (with_end i to rings)) ≡ length (all_vertices rings)
vertices_same i to [] = refl
vertices_same zero to (r ∷ rs) = joined_length (with_first to r) r (all_vertices rs) (all_vertices rs) (first_length to r) refl
vertices_same (suc zero) to (r ∷ rs) = joined_length (with_last to r) r (all_vertices rs) (all_vertices rs) (last_length to r) refl
vertices_same (suc (suc i)) to (r ∷ rs) =
    joined_length r r (all_vertices (with_end i to rs)) (all_vertices rs) refl (vertices_same i to rs)

-- ---- the line
given_rings : (s : Shape) (ps : List Ring) → lines_in ps ≡ s.parts → rings_of s ≡ rings_in ps
given_rings s ps p = ap (λ (qs : List (List (List Place))). all_rings qs) (sym p) ∙ line_rings ps

pub long_lines : (s : Shape) (ps : List Ring) → IsShape s → s.kind ≡ kind.Line → lines_in ps ≡ s.parts
    → Every {A = List Place} (λ part. 1 ≤ length part) (rings_in ps)
long_lines s ps v e p = longer (rings_in ps) (parts_are s ps v e p)
  where
    longer : (rs : List (List Place)) → Every IsLinePart rs → Every (λ part. 1 ≤ length part) rs
    longer [] h = tt
    longer (r ∷ rs) h = (let l = h.0.ring.0 in omega (arith, l), longer rs h.1)

pub end_below : (s : Shape) (ps : List Ring) (i : ℕ) → IsShape s → s.kind ≡ kind.Line → lines_in ps ≡ s.parts → i < length (ends_of s)
    → i < 2 * length ps
end_below s ps i v e p h =
    let a = ap (λ (vs : List Place). length vs) (ends_are s e ∙ ap (λ (rs : List (List Place)). flat_map two_ends rs) (given_rings s ps p)) in
    let b = ends_counted (rings_in ps) (long_lines s ps v e p) in
    let c = length-map ps (λ (ring : Ring). ring.items) in
    omega (arith, h, a, b, c)

pub countable : (s : Shape) (ps new : List Ring) (i : ℕ) (to : Place) → IsShape s → lines_in ps ≡ s.parts
    → rings_in new ≡ with_end i to (rings_in ps) → IsCountable (lines_in new)
countable s ps new i to v p e =
    let same = line_rings new ∙ e ∙ ap (λ (rs : List (List Place)). with_end i to rs) (sym (given_rings s ps p)) in
    let n = ap (λ (rs : List (List Place)). length rs) same in
    let m = ap (λ (rs : List (List Place)). length (all_vertices rs)) same in
    let a = rings_same i to (rings_of s) in
    let b = vertices_same i to (rings_of s) in
    let few = rings_few s.kind (rings_of s) v.rings in
    record { rings = omega (arith, n, a, few, v.vertices); vertices = omega (arith, m, b, v.vertices) }

pub line_made : (s : Shape) (ps new : List Ring) (i : ℕ) (to : Place) → lines_in ps ≡ s.parts → rings_in new ≡ with_end i to (rings_in ps)
    → shape_of kind.Line (lines_in new) ≡ snapped_shape i to s
line_made s ps new i to p e =
    ap (λ (qs : List (List (List Place))). shape_of kind.Line qs)
    (made_parts new ∙ ap (λ (rs : List (List Place)). map {A = List Place} (λ ring. ring ∷ []) rs)
    (e ∙ ap (λ (rs : List (List Place)). with_end i to rs) (sym (given_rings s ps p))))
