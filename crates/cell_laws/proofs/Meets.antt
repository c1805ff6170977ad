-- The points of cells that are met, and of lists that are carved.
use Rattle.std.proofs.Common.{◌≡◌, ◌↔◌, ℤ, Bool, true, false, List, [], ◌∷◌, ◌++◌, ◌⊎◌, inl, inr, ◌∙◌, refl, sym, subst, cond, ◌||◌, map}
use Rattle.std.specs.Prelude.{flat_map}
use Rattle.std.specs.List.{list_any}
use Rattle.std.proofs.lemmas.Bool.{false≢true}
use Rattle.std.proofs.lemmas.Bool.Decides.{Decides-and, Decides-int_eq, Decides-eqb}
use Rattle.plane_terms.specs.Point.{Point}
use Rattle.plane_terms.specs.HalfPlane.{HalfPlane, Holds}
use Rattle.plane_terms.specs.declared.op.Op.{Op}
use Rattle.plane_terms.specs.declared.op.Op.TheVariants.{Over, AtLeast, Zero}
use Rattle.plane_terms.specs.Cell.{Cell, InCell, InCells, HavePoints, op_number, same_half, meet_of}
use Rattle.plane_terms.specs.Decide.{has_point}
use Rattle.plane_terms.specs.Carve.{kept, carve_of}
use Rattle.cell_laws.proofs.Lists.{all_append, some_append}
use Rattle.cell_laws.proofs.Decision.{has_point-true}

-- ---- equal half-planes
same_op : (o r : Op) → op_number o ≡ op_number r → o ≡ r
same_op Over Over e = refl
same_op Over AtLeast e = absurd cc
same_op Over Zero e = absurd cc
same_op AtLeast Over e = absurd cc
same_op AtLeast AtLeast e = refl
same_op AtLeast Zero e = absurd cc
same_op Zero Over e = absurd cc
same_op Zero AtLeast e = absurd cc
same_op Zero Zero e = refl

same_record : {a b c u v w : ℤ} {o r : Op} → a ≡ u → b ≡ v → c ≡ w → o ≡ r
    → ◌≡◌ {A = HalfPlane} (record { a = a; b = b; c = c; op = o }) (record { a = u; b = v; c = w; op = r })
same_record e f g h = rw (e, f, g, h) refl

pub same_half-is : (h g : HalfPlane) → same_half h g ≡ true → h ≡ g
same_half-is h g e =
    let k = (Decides-and _ _ (Decides-int_eq h.a g.a)
    (Decides-and _ _ (Decides-int_eq h.b g.b)
    (Decides-and _ _ (Decides-int_eq h.c g.c) (Decides-eqb (op_number h.op) (op_number g.op))))).0 e in
    same_record k.0 k.1.0 k.1.1.0 (same_op h.op g.op k.1.1.1)

any_holds : (h : HalfPlane) (c : Cell) (p : Point) → list_any (same_half h) c ≡ true → InCell c p → Holds h p
any_holds h [] p e m = absurd (false≢true e)
any_holds h (g ∷ gs) p e m = by_cases (same_half h g) refl e (λ f. any_holds h gs p f m.1)
  where
    by_cases : (b : Bool) → same_half h g ≡ b → b || list_any (same_half h) gs ≡ true → (list_any (same_half h) gs ≡ true → Holds h p)
        → Holds h p
    by_cases true f e rest = subst (λ k. Holds k p) (sym (same_half-is h g f)) m.0
    by_cases false f e rest = rest e

-- ---- the meet of two cells
in_more : (c : Cell) (h : HalfPlane) (p : Point) → InCell (c ++ h ∷ []) p ↔ (InCell c p × Holds h p)
in_more c h p =
    let e = all_append (λ g. Holds g p) c (h ∷ []) in
    (λ m. let k = e.0 m in (k.0, k.1.0), λ m. e.1 (m.0, (m.1, tt)))

pub meet_points : (c d : Cell) (p : Point) → InCell (meet_of c d) p ↔ (InCell c p × InCell d p)
meet_points c [] p = (λ m. (m, tt), λ m. m.0)
meet_points c (h ∷ hs) p = by_cases (list_any (same_half h) c) refl (meet_points c hs p) (meet_points (c ++ h ∷ []) hs p)
  where
    by_cases : (b : Bool) → list_any (same_half h) c ≡ b → InCell (meet_of c hs) p ↔ (InCell c p × InCell hs p)
        → InCell (meet_of (c ++ h ∷ []) hs) p ↔ (InCell (c ++ h ∷ []) p × InCell hs p)
        → InCell (cond b (meet_of c hs) (meet_of (c ++ h ∷ []) hs)) p ↔ (InCell c p × (Holds h p × InCell hs p))
    by_cases true e k n =
        (λ m. let a = k.0 m in (a.0, (any_holds h c p e a.0, a.1)), λ m. k.1 (m.0, m.1.1))
    by_cases false e n k =
        let l = in_more c h p in
        (λ m. let a = k.0 m in let b = l.0 a.0 in (b.0, (b.1, a.1)), λ m. k.1 (l.1 (m.0, m.1.0), m.1.1))

-- ---- lists of cells
pub kept_points : (cs : List Cell) (p : Point) → InCells (kept cs) p ↔ InCells cs p
kept_points [] p = (λ h. h, λ h. h)
kept_points (c ∷ cs) p = by_cases (has_point c) refl (kept_points cs p)
  where
    by_cases : (b : Bool) → has_point c ≡ b → InCells (kept cs) p ↔ InCells cs p → InCells (cond b (c ∷ kept cs) (kept cs)) p
        ↔ (InCell c p ⊎ InCells cs p)
    by_cases true e rest = (
      λ h. elim h [ inl a ↦ inl a | inr k ↦ inr (rest.0 k) ],
      λ h. elim h [
        | inl a ↦ inl a
        | inr k ↦ inr
            (rest.1 k)
      ],
    )
    by_cases false e rest = (
      λ h. inr
          (rest.0 h),
      λ h. elim h [ inl a ↦ absurd (false≢true (sym e ∙ (has_point-true c).1 (p, a))) | inr k ↦ rest.1 k ],
    )

pub kept_have_points : (cs : List Cell) → HavePoints (kept cs)
kept_have_points [] = tt
kept_have_points (c ∷ cs) = by_cases (has_point c) refl (kept_have_points cs)
  where
    by_cases : (b : Bool) → has_point c ≡ b → HavePoints (kept cs) → HavePoints (cond b (c ∷ kept cs) (kept cs))
    by_cases true e rest = ((has_point-true c).0 e, rest)
    by_cases false e rest = rest

met_points : (c : Cell) (ds : List Cell) (p : Point) → InCells (map {A = Cell} (meet_of c) ds) p ↔ (InCell c p × InCells ds p)
met_points c [] p = (λ h. absurd h, λ h. h.1)
met_points c (d ∷ ds) p =
    let e = meet_points c d p in
    let k = met_points c ds p in (
      λ h. elim h [ inl a ↦ let m = e.0 a in (m.0, inl m.1) | inr b ↦ let m = k.0 b in (m.0, inr m.1) ],
      λ h. elim h.1 [ inl a ↦ inl (e.1 (h.0, a)) | inr b ↦ inr (k.1 (h.0, b)) ],
    )

all_met : (cs ds : List Cell) (p : Point) → InCells (flat_map (λ c. map {A = Cell} (meet_of c) ds) cs) p ↔ (InCells cs p × InCells ds p)
all_met [] ds p = (λ h. absurd h, λ h. h.0)
all_met (c ∷ cs) ds p =
    let e = some_append (λ k. InCell k p) (map {A = Cell} (meet_of c) ds) (flat_map (λ c. map {A = Cell} (meet_of c) ds) cs) in
    let f = met_points c ds p in
    let k = all_met cs ds p in (
      λ h. elim (e.0 h) [ inl a ↦ let m = f.0 a in (inl m.0, m.1) | inr b ↦ let m = k.0 b in (inr m.0, m.1) ],
      λ h. elim h.0 [ inl a ↦ e.1 (inl (f.1 (a, h.1))) | inr b ↦ e.1 (inr (k.1 (b, h.1))) ],
    )

pub carve_points : (cs ds : List Cell) (p : Point) → InCells (carve_of cs ds) p ↔ (InCells cs p × InCells ds p)
carve_points cs ds p =
    let e = kept_points (flat_map (λ c. map {A = Cell} (meet_of c) ds) cs) p in
    let f = all_met cs ds p in
    (λ h. f.0 (e.0 h), λ h. e.1 (f.1 h))
