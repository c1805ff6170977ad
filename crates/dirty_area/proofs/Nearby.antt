-- What holds of some rectangle of a list, and what the rectangles cover that meet another.
use Rattle.std.proofs.Common.{◌≡◌, ◌↔◌, inl, inr, refl, sym, subst, arith, ℕ, zero, suc, ◌<◌, List, [], ◌∷◌, length, get_or, Contains}
use Rattle.plane_terms.specs.Lists.{SomeOf}
use Rattle.plane_terms.specs.Point.{Point}
use Rattle.plane_terms.specs.Rectangle.{Rectangle, RectHolds}
use Rattle.plane_terms.specs.Dirt.{Covers}
use Rattle.sound_laws.proofs.Meetings.{meets_test}
use Rattle.dirty_area.specs.Parts.{AreNear}

pub some_place : {X : Type 0} (P : X → Type 0) (xs : List X) → SomeOf P xs → (x : X) × Contains xs x × P x
some_place P [] h = absurd h
some_place P (x ∷ xs) h = elim h [
  | inl p ↦ (x, (0, omega arith, refl), p)
  | inr k ↦ let y = some_place P xs k in (y.0, (suc y.1.0, omega (arith, y.1.1), y.1.2), y.2)
]

pub place_some : {X : Type 0} (P : X → Type 0) (xs : List X) (x : X) (k : ℕ) → k < length xs → get_or xs k x ≡ x → P x → SomeOf P xs
place_some P [] x k l e p = absurd (omega arith)
place_some P (y ∷ ys) x zero l e p = inl (subst P (sym e) p)
place_some P (y ∷ ys) x (suc k) l e p = inr (place_some P ys x k (omega arith) e p)

-- a point of the rectangle is covered just by those that meet it
pub near_covers : (d : List Rectangle) (r : Rectangle) (ms : List Rectangle) (p : Point) → AreNear d r ms → RectHolds r p → Covers ms p ↔ Covers d p
near_covers d r ms p near i = (
  (λ h.
      let s = some_place (λ o. RectHolds o p) ms h in
      let c = ((near s.0).0 s.1).0 in
      place_some (λ o. RectHolds o p) d s.0 c.0 c.1 c.2 s.2),
  (λ h.
      let s = some_place (λ o. RectHolds o p) d h in
      let c = (near s.0).1 (s.1, meets_test s.0 r (p, s.2, i)) in
      place_some (λ o. RectHolds o p) ms s.0 c.0 c.1 c.2 s.2),
)

-- what a rectangle of the list holds is covered
