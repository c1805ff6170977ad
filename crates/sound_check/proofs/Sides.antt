-- The least frame of cells, from what they reach.
use Rattle.std.proofs.Common.{◌≡◌, ◌↔◌, ℕ, nat_eq, Bool, true, false, IsTrue, List, [], ◌∷◌, ◌+◌, length, take, inl, inr, refl, sym, subst, arith, ℤ, pos, ◌+ℤ◌, ◌-ℤ◌, ◌*ℤ◌, ◌≤ℤ◌, ◌<ℤ◌}
use Rattle.std.specs.Prelude.{slice_get, Some}
use Rattle.std.proofs.lemmas.Bool.{false≢true}
use Rattle.std.proofs.lemmas.Int.{ints}
use Rattle.plane_terms.specs.Point.{Point}
use Rattle.plane_terms.specs.Rectangle.{Rectangle, RectHolds}
use Rattle.plane_terms.specs.HalfPlane.{HalfPlane, Holds, x_over, x_under, y_over, y_under}
use Rattle.plane_terms.specs.Cell.{Cell, InCell, InCells, HasPoint, IsLeastFrame}
use Rattle.number_laws.proofs.Order.{cases_order_ℤ, scaled_le}
use Rattle.cell_laws.proofs.GridLines.{x_over_holds, x_under_holds, y_over_holds, y_under_holds}
use Rattle.plane_terms.specs.Lists.{SomeOf}
use Rattle.cell_laws.proofs.Lists.{some_append}
use Rattle.validation_laws.proofs.Joining.{take_one}
use Rattle.sound_check.specs.Rest.{IsRest}
use Rattle.sound_check.specs.Frames.{Reaches, HoldsAll, ReachesSides}
use Rattle.sound_check.proofs.Rests.{none_test, some_taken}

-- ---- the tests
met_in : (h : HalfPlane) (c side : Cell) (p : Point) → side ≡ h ∷ [] → InCell c p × InCell side p → InCell c p × Holds h p
met_in h c side p s m = (m.0, (subst (λ ds. InCell ds p) s m.1).0)

pub reached : (h : HalfPlane) (cs : List Cell) (i : ℕ) (c side there : Cell) → slice_get cs i ≡ Some c → side ≡ h ∷ []
    → ((p : Point) → InCell there p ↔ (InCell c p × InCell side p)) → HasPoint there → Reaches h cs
reached h cs i c side there e s points k =
    let m = met_in h c side k.0 s ((points k.0).0 k.1) in
    let so_far = subst (SomeOf (λ d. InCell d k.0)) (sym (take_one cs i c e)) ((some_append (λ d. InCell d k.0) (take i cs) (c ∷ [])).1 (inr (inl m.0))) in
    (k.0, some_taken (λ d. InCell d k.0) cs (i + 1) so_far, m.1)

pub not_reached : (h : HalfPlane) (cs : List Cell) (i : ℕ) (c side there : Cell) → slice_get cs i ≡ Some c → side ≡ h ∷ []
    → ((p : Point) → InCell there p ↔ (InCell c p × InCell side p)) → ¬ (HasPoint there) → ¬ (Reaches h (take i cs)) → ¬ (Reaches h (take (i + 1) cs))
not_reached h cs i c side there e s points none before = subst (λ ds. ¬ (Reaches h ds)) (sym (take_one cs i c e))
    (λ k. elim ((some_append (λ d. InCell d k.0) (take i cs) (c ∷ [])).0 k.1) [
      | inl u ↦ before (k.0, u, k.2)
      | inr u ↦ elim u [
        | inl v ↦ none (k.0, (points k.0).1 (v, subst (λ ds. InCell ds k.0) (sym s) (k.2, tt)))
        | inr v ↦ v
      ]
    ])

le_stable : (a b : ℤ) → ¬ (¬ (a ≤ℤ b)) → a ≤ℤ b
le_stable a b n = elim (cases_order_ℤ b a) [ inl l ↦ absurd (n (λ h. omega (arith, ints))) | inr h ↦ h ]

rect_stable : (r : Rectangle) (p : Point) → ¬ (¬ (RectHolds r p)) → RectHolds r p
rect_stable r p n = record {
  left = le_stable _ _ (λ k. n (λ h. k h.left));
  right = le_stable _ _ (λ k. n (λ h. k h.right));
  below = le_stable _ _ (λ k. n (λ h. k h.below));
  above = le_stable _ _ (λ k. n (λ h. k h.above));
}

pub holds_test : (r : Rectangle) (cs outside there : List Cell) (n : ℕ) → ((p : Point) → InCells outside p ↔ ¬ (RectHolds r p))
    → IsRest (InCells outside) cs there → n ≡ length there → IsTrue (nat_eq n 0) ↔ HoldsAll r cs
holds_test r cs outside there n out rest e =
    let t = none_test there n rest.some e in (
      λ k p i. rect_stable r p (λ m. t.0 k p ((rest.points p).1 (i, (out p).1 m))),
      λ h. t.1 (λ p m. let a = (rest.points p).0 m in (out p).0 a.1 (h p a.0)),
    )

-- ---- a rectangle that holds all, each of whose sides is reached, is the least
before_next : (s v x : ℤ) (w : ℕ) → (s *ℤ pos w) ≤ℤ x → x <ℤ ((v +ℤ pos 1) *ℤ pos w) → s ≤ℤ v
before_next s v x w h k = elim (cases_order_ℤ v s) [
  | inl l ↦ let m = scaled_le (v +ℤ pos 1) s w (omega (arith, ints)) in absurd (omega (arith, ints))
  | inr l ↦ l
]

after_last : (s v x : ℤ) (w : ℕ) → x ≤ℤ (s *ℤ pos w) → ((v -ℤ pos 1) *ℤ pos w) <ℤ x → v ≤ℤ s
after_last s v x w h k = elim (cases_order_ℤ s v) [
  | inl l ↦ let m = scaled_le s (v -ℤ pos 1) w (omega (arith, ints)) in absurd (omega (arith, ints))
  | inr l ↦ l
]

pub least_from_sides : (r : Rectangle) (cs : List Cell) → HoldsAll r cs → ReachesSides r cs → IsLeastFrame r cs
least_from_sides r cs h s = record {
  holds = h;
  least = λ t all. record {
    left = let p = s.left.0 in before_next t.x0 r.x0 p.x p.w (all p s.left.1).left ((x_under_holds (r.x0 +ℤ pos 1) p).0 s.left.2);
    right = let p = s.right.0 in after_last t.x1 r.x1 p.x p.w (all p s.right.1).right ((x_over_holds (r.x1 -ℤ pos 1) p).0 s.right.2);
    below = let p = s.below.0 in before_next t.y0 r.y0 p.y p.w (all p s.below.1).below ((y_under_holds (r.y0 +ℤ pos 1) p).0 s.below.2);
    above = let p = s.above.0 in after_last t.y1 r.y1 p.y p.w (all p s.above.1).above ((y_over_holds (r.y1 -ℤ pos 1) p).0 s.above.2);
  };
}

off_by_one : (v : ℤ) → (v +ℤ pos 1) ≤ℤ v → ⊥
off_by_one v h = omega (arith, ints)

off_by_less : (v : ℤ) → v ≤ℤ (v -ℤ pos 1) → ⊥
off_by_less v h = omega (arith, ints)

-- ---- and the least one is reached at each side
pub left_reached : (r : Rectangle) (cs : List Cell) → IsLeastFrame r cs → ¬ (¬ (Reaches (x_under (r.x0 +ℤ pos 1)) cs))
left_reached r cs f n =
    let k = f.least (record r { x0 = r.x0 +ℤ pos 1 }) (λ p i. let h = f.holds p i in record {
      left = elim (cases_order_ℤ p.x ((r.x0 +ℤ pos 1) *ℤ pos p.w)) [
        | inl l ↦ absurd (n (p, i, (x_under_holds (r.x0 +ℤ pos 1) p).1 l))
        | inr l ↦ l
      ];
      right = h.right;
      below = h.below;
      above = h.above;
    }) in
    off_by_one r.x0 k.left

pub right_reached : (r : Rectangle) (cs : List Cell) → IsLeastFrame r cs → ¬ (¬ (Reaches (x_over (r.x1 -ℤ pos 1)) cs))
right_reached r cs f n =
    let k = f.least (record r { x1 = r.x1 -ℤ pos 1 }) (λ p i. let h = f.holds p i in record {
      left = h.left;
      right = elim (cases_order_ℤ ((r.x1 -ℤ pos 1) *ℤ pos p.w) p.x) [
        | inl l ↦ absurd (n (p, i, (x_over_holds (r.x1 -ℤ pos 1) p).1 l))
        | inr l ↦ l
      ];
      below = h.below;
      above = h.above;
    }) in
    off_by_less r.x1 k.right

pub below_reached : (r : Rectangle) (cs : List Cell) → IsLeastFrame r cs → ¬ (¬ (Reaches (y_under (r.y0 +ℤ pos 1)) cs))
below_reached r cs f n =
    let k = f.least (record r { y0 = r.y0 +ℤ pos 1 }) (λ p i. let h = f.holds p i in record {
      left = h.left;
      right = h.right;
      below = elim (cases_order_ℤ p.y ((r.y0 +ℤ pos 1) *ℤ pos p.w)) [
        | inl l ↦ absurd (n (p, i, (y_under_holds (r.y0 +ℤ pos 1) p).1 l))
        | inr l ↦ l
      ];
      above = h.above;
    }) in
    off_by_one r.y0 k.below

pub above_reached : (r : Rectangle) (cs : List Cell) → IsLeastFrame r cs → ¬ (¬ (Reaches (y_over (r.y1 -ℤ pos 1)) cs))
above_reached r cs f n =
    let k = f.least (record r { y1 = r.y1 -ℤ pos 1 }) (λ p i. let h = f.holds p i in record {
      left = h.left;
      right = h.right;
      below = h.below;
      above = elim (cases_order_ℤ ((r.y1 -ℤ pos 1) *ℤ pos p.w) p.y) [
        | inl l ↦ absurd (n (p, i, (y_over_holds (r.y1 -ℤ pos 1) p).1 l))
        | inr l ↦ l
      ];
    }) in
    off_by_less r.y1 k.above

pub sides_reached : (r : Rectangle) (cs : List Cell) → IsLeastFrame r cs → ¬ (¬ (ReachesSides r cs))
sides_reached r cs f n =
    left_reached r cs f (λ a. right_reached r cs f (λ b. below_reached r cs f (λ c. above_reached r cs f (λ d. n (record {
      left = a;
      right = b;
      below = c;
      above = d;
    })))))

pub least_test : (r : Rectangle) (cs : List Cell) (b : Bool) → HoldsAll r cs → IsTrue b ↔ ReachesSides r cs → IsTrue b ↔ IsLeastFrame r cs
least_test r cs true h t = (λ k. least_from_sides r cs h (t.0 k), λ f. refl)
least_test r cs false h t = (λ k. absurd (false≢true k), λ f. absurd (sides_reached r cs f (λ s. false≢true (t.1 s))))
