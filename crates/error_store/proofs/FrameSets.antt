-- A set of frames has what was put in.
use Rattle.std.proofs.Common.{◌≡◌, ◌↔◌, inl, inr, ℕ, ℤ, zero, suc, ◌<◌, ◌+◌, Bool, true, false, cond, List, [], ◌∷◌, ◌++◌, length, take, get_or, arith, refl, sym, ◌∙◌, ap, subst, Contains}
use Rattle.std.specs.BTreeSet.{BTreeSet}
use Rattle.std.specs.Cmp.{IsTotalOrder, eq_by_cmp_equiv}
use Rattle.std.specs.Ordering.{nat_cmp, int_cmp, eq_by_cmp}
use Rattle.std.specs.Prelude.{IsTrue}
use Rattle.std.proofs.lemmas.Bool.{cases_Bool}
use Rattle.std.proofs.lemmas.Cmp.{nat_cmp_total, int_cmp_total, on_total, then_total}
use Rattle.std.proofs.lemmas.List.{take_more}
use Rattle.std.proofs.lemmas.List.Elements.{Contains-append_left, Contains-append_right, Contains-append_cases}
use Rattle.std.proofs.lemmas.Map.Lookups.{CmpEqualImpliesEq, exact_pairs, exact_unsigned, exact_signed}
use Rattle.std.proofs.lemmas.Map.Views.{tells_apart}
use Rattle.plane_terms.specs.Rectangle.{Rectangle}
use Rattle.grid_index.specs.declared.placed.Placed.{Placed}
use Rattle.error_store.specs.FrameSets.{key_at, frame_cmp, has_key}
use Rattle.error_store.specs.declared.frame_set.FrameKey.{FrameKey}

-- ---- the order
pub frames_total : IsTotalOrder frame_cmp
frames_total = then_total (on_total (λ (k : FrameKey). k.handle) nat_cmp_total) (then_total (on_total (λ (k : FrameKey). k.x0) int_cmp_total)
    (then_total (on_total (λ (k : FrameKey). k.y0) int_cmp_total) (then_total (on_total (λ (k : FrameKey). k.x1) int_cmp_total)
    (on_total (λ (k : FrameKey). k.y1) int_cmp_total))))

abbrev Numbers : Type 0
Numbers = ℕ × (ℤ × (ℤ × (ℤ × ℤ)))

abbrev key_by : Numbers → FrameKey
key_by n = record { handle = n.0; x0 = n.1.0; y0 = n.1.1.0; x1 = n.1.1.1.0; y1 = n.1.1.1.1 }

abbrev numbers_of : FrameKey → Numbers
numbers_of k = (k.handle, (k.x0, (k.y0, (k.x1, k.y1))))

exact_numbers : CmpEqualImpliesEq (λ (m n : Numbers). frame_cmp (key_by m) (key_by n))
exact_numbers = exact_pairs nat_cmp _ exact_unsigned (exact_pairs int_cmp _ exact_signed (exact_pairs int_cmp _ exact_signed
    (exact_pairs int_cmp int_cmp exact_signed exact_signed)))

exact_frames : CmpEqualImpliesEq frame_cmp
exact_frames j k h = ap key_by (exact_numbers (numbers_of j) (numbers_of k) h)

abbrev place_by : FrameKey → Placed
place_by k = let r : Rectangle = record { x0 = k.x0; y0 = k.y0; x1 = k.x1; y1 = k.y1 } in record { rect = r; handle = k.handle }

-- frames whose keys compare alike are one
same_place : (p q : Placed) → eq_by_cmp frame_cmp (key_at p) (key_at q) ≡ true → p ≡ q
same_place p q t = ap place_by (tells_apart exact_frames (key_at p) (key_at q) t)

its_key : (p q : Placed) → q ≡ p → eq_by_cmp frame_cmp (key_at p) (key_at q) ≡ true
its_key p q e = subst (λ (x : Placed). eq_by_cmp frame_cmp (key_at p) (key_at x) ≡ true) (sym e) ((eq_by_cmp_equiv frames_total).refl (key_at p))

-- ---- one frame more
abbrev pub HasThose : BTreeSet FrameKey → List Placed → Type 0
HasThose s ps = (q : Placed) → IsTrue (has_key s (key_at q)) ↔ Contains ps q

single : (p q : Placed) → p ≡ q → Contains (p ∷ []) q
single p q e = (0, omega arith, e)

of_single : (p q : Placed) → Contains (p ∷ []) q → q ≡ p
of_single p q (zero, l, e) = sym e
of_single p q (suc i, l, e) = absurd (omega (arith, l))

pub has_more : (s n : BTreeSet FrameKey) (ps : List Placed) (i : ℕ) (p : Placed) → i < length ps → p ≡ get_or ps i p
    → ((k : FrameKey) → has_key n k ≡ cond (eq_by_cmp frame_cmp (key_at p) k) true (has_key s k)) → HasThose s (take i ps)
    → HasThose n (take (i + 1) ps)
has_more s n ps i p l is updates h q =
    let more : take (i + 1) ps ≡ take i ps ++ p ∷ [] = take_more ps i p l ∙ ap (λ x. take i ps ++ x ∷ []) (sym is) in
    rw more (there, back)
  where
    there : IsTrue (has_key n (key_at q)) → Contains (take i ps ++ p ∷ []) q
    there t = elim (cases_Bool (eq_by_cmp frame_cmp (key_at p) (key_at q))) [
      | inl e ↦ Contains-append_right (take i ps) (p ∷ []) q (single p q (same_place p q e))
      | inr e ↦ Contains-append_left (take i ps) (p ∷ []) q ((h q).0 (sym (ap (λ b. cond b true (has_key s (key_at q))) e) ∙ (sym (updates (key_at q)) ∙ t)))
    ]

    back : Contains (take i ps ++ p ∷ []) q → IsTrue (has_key n (key_at q))
    back c = updates (key_at q) ∙ elim (Contains-append_cases (take i ps) (p ∷ []) q c) [
      | inl k ↦ behind (eq_by_cmp frame_cmp (key_at p) (key_at q)) ((h q).1 k)
      | inr k ↦ ap (λ b. cond b true (has_key s (key_at q))) (its_key p q (of_single p q k))
    ]
      where
        behind : (b : Bool) → has_key s (key_at q) ≡ true → cond b true (has_key s (key_at q)) ≡ true
        behind true t = refl
        behind false t = t

pub has_none : (s : BTreeSet FrameKey) → s.keys ≡ [] → HasThose s []
has_none s e q = (λ t. absurd (none t), λ c. absurd (omega (arith, c.1)))
  where
    none : IsTrue (has_key s (key_at q)) → ⊥
    none t = let f : false ≡ true = rw e at t in absurd cc
